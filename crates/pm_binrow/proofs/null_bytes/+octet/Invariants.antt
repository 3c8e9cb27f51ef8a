use Rattle.std.proofs.Common.{length}
use Rattle.pm_binrow.proofs.null_bytes.+octet.Given as goal

abbrev pub decreases-octet : goal.decreases-octet
decreases-octet l = length l.values.now
