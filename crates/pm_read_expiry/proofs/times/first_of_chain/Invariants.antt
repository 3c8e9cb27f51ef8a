use Rattle.pm_read_expiry.specs.Times.{Follow}
use Rattle.pm_read_expiry.proofs.times.first_of_chain.Given as goal

abbrev pub invariant-loop-first : goal.invariant-loop-first
invariant-loop-first l = Follow l.times l.first

abbrev pub decreases-loop-first : goal.decreases-loop-first
decreases-loop-first l = l.first
