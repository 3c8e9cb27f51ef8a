use Rattle.std.proofs.Common.{◌≡◌, ◌++◌, drop, filter}
use Rattle.pm_options.specs.Options.{is_kept}
use Rattle.pm_options.specs.Settings.{views}
use Rattle.pm_settings.proofs.read.kept_in.Given as goal

abbrev pub invariant-loop-key : goal.invariant-loop-key
invariant-loop-key l =
    l.kept.items ++ filter is_kept (views (drop l.key-index l.settings)) ≡ filter is_kept (views l.settings)
