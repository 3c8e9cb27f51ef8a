use Rattle.std.proofs.Common.{◌≡◌, ◌++◌}
use Rattle.pm_options.specs.Fields.{entries_views}
use Rattle.pm_settings.proofs.fields.delimiters_of.Given as goal

abbrev pub invariant-loop-column : goal.invariant-loop-column
invariant-loop-column l = l.delimiters.items ++ entries_views l.column-iterator ≡ entries_views l.fn.texts.entries
