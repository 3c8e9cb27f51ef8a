use Rattle.std.proofs.Common.{◌≡◌, ◌++◌}
use Rattle.pm_options.specs.Fields.{entries_views, meant, names_meant}
use Rattle.pm_settings.proofs.fields.groups_of.Given as goal

abbrev pub invariant-loop-column : goal.invariant-loop-column
invariant-loop-column l =
    l.groups.items ++ meant names_meant (entries_views l.column-iterator) ≡ meant names_meant (entries_views l.fn.texts.entries)
