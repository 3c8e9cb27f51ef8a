use Rattle.std.proofs.Common.{take}
use Rattle.pm_read_expiry.specs.Times.{IsLeastNext}
use Rattle.pm_read_expiry.proofs.times.least_next.Given as goal

abbrev pub invariant-loop-named : goal.invariant-loop-named
invariant-loop-named l = IsLeastNext (take l.named-index l.consumers) l.least
