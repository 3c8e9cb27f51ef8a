use Rattle.std.proofs.Common.{◌≡◌, ◌++◌, drop}
use Rattle.pm_read_expiry.specs.Times.{times_of}
use Rattle.pm_read_expiry.proofs.times.times_of.Given as goal

abbrev pub invariant-loop-line : goal.invariant-loop-line
invariant-loop-line l = l.times.items ++ times_of (drop l.line-index l.lines) ≡ times_of l.lines
