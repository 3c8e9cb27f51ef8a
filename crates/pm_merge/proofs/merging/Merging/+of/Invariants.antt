use Rattle.std.proofs.Common.{vec_len}
use Rattle.pm_merge.proofs.merging.Merging.+of.Given as goal

abbrev pub decreases-of : goal.decreases-of
decreases-of g l = vec_len l.older_first
