use Rattle.std.proofs.Common.{◌≡◌, drop}
use Rattle.pm_made.specs.Refusals.{first_not_live}
use Rattle.pm_made.proofs.removed.judge_removed.Given as goal

-- all so far are live
abbrev pub invariant-loop-entry : goal.invariant-loop-entry
invariant-loop-entry l = first_not_live l.live (drop l.entry-index l.removed) ≡ first_not_live l.live l.removed
