use Rattle.std.proofs.Common.{take}
use Rattle.pm_options.specs.Fields.{function_suffix}
use Rattle.pm_options.specs.Kinds.{function_text}
use Rattle.pm_options.specs.Written.{Adds, column_settings}
use Rattle.pm_settings.proofs.write.push_functions.Given as goal

abbrev pub invariant-loop-column : goal.invariant-loop-column
invariant-loop-column l = Adds l.fn.out.items l.out.items (column_settings function_suffix function_text (take l.column-index l.functions))
