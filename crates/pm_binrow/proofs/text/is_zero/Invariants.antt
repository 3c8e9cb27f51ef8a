use Rattle.std.proofs.Common.{◌≡◌, drop}
use Rattle.pm_binrow.specs.Reading.{is_zero}
use Rattle.pm_binrow.proofs.text.is_zero.Given as goal

abbrev pub invariant-loop-byte : goal.invariant-loop-byte
invariant-loop-byte l = is_zero (drop l.byte-index l.bytes) ≡ is_zero l.bytes
