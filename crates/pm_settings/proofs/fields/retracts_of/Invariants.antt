use Rattle.std.proofs.Common.{◌≡◌, ◌++◌}
use Rattle.pm_options.specs.Fields.{entries_views, meant}
use Rattle.pm_options.specs.Kinds.{truth_in}
use Rattle.pm_settings.proofs.fields.retracts_of.Given as goal

abbrev pub invariant-loop-column : goal.invariant-loop-column
invariant-loop-column l =
    l.retracts.items ++ meant truth_in (entries_views l.column-iterator) ≡ meant truth_in (entries_views l.fn.texts.entries)
