use Rattle.pm_levels.proofs.OverlapLemmas.{Searched}
use Rattle.pm_levels.proofs.overlap.first_overlap.Given as goal

abbrev pub invariant-loop-i : goal.invariant-loop-i
invariant-loop-i l = Searched l.files l.last l.i
