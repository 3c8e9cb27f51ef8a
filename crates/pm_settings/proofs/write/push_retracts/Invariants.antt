use Rattle.std.proofs.Common.{take}
use Rattle.pm_options.specs.Fields.{retract_suffix}
use Rattle.pm_options.specs.Kinds.{truth_text}
use Rattle.pm_options.specs.Written.{Adds, column_settings}
use Rattle.pm_settings.proofs.write.push_retracts.Given as goal

abbrev pub invariant-loop-column : goal.invariant-loop-column
invariant-loop-column l = Adds l.fn.out.items l.out.items (column_settings retract_suffix truth_text (take l.column-index l.retracts))
