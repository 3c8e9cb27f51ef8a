use Rattle.pm_avro_data.proofs.Pushing.{Pushed}
use Rattle.pm_avro_data.proofs.writing.push_groups.Given as goal

abbrev pub invariant-loop-left : goal.invariant-loop-left
invariant-loop-left l = Pushed l.out.items l.left l.fn.out.items l.number

abbrev pub decreases-loop-left : goal.decreases-loop-left
decreases-loop-left l = l.left
