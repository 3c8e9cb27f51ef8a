use Rattle.std.proofs.Common.{length}
use Rattle.pm_run_bytes.proofs.judge.+are_at.Given as goal

abbrev pub decreases-are_at : goal.decreases-are_at
decreases-are_at l = length l.places.now
