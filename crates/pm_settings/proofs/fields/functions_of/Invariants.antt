use Rattle.std.proofs.Common.{◌≡◌, ◌++◌}
use Rattle.pm_options.specs.Fields.{entries_views, meant}
use Rattle.pm_options.specs.Kinds.{function_in}
use Rattle.pm_settings.proofs.fields.functions_of.Given as goal

abbrev pub invariant-loop-column : goal.invariant-loop-column
invariant-loop-column l =
    l.functions.items ++ meant function_in (entries_views l.column-iterator) ≡ meant function_in (entries_views l.fn.texts.entries)
