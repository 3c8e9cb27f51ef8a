use Rattle.std.proofs.Common.{take}
use Rattle.pm_options.specs.Fields.{group_suffix}
use Rattle.pm_options.specs.Written.{Adds, column_settings, list_text}
use Rattle.pm_settings.proofs.write.push_groups.Given as goal

abbrev pub invariant-loop-column : goal.invariant-loop-column
invariant-loop-column l = Adds l.fn.out.items l.out.items (column_settings group_suffix list_text (take l.column-index l.groups))
