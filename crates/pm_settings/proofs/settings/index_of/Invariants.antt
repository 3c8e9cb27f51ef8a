use Rattle.std.proofs.Common.{◌≡◌, ◌+◌, drop}
use Rattle.std.specs.List.{prefix_len}
use Rattle.pm_options.specs.Settings.{is_below, views}
use Rattle.pm_settings.proofs.settings.index_of.Given as goal

abbrev pub invariant-loop-index : goal.invariant-loop-index
invariant-loop-index l =
    l.index + prefix_len (is_below l.key) (views (drop l.index l.settings)) ≡ prefix_len (is_below l.key) (views l.settings)
