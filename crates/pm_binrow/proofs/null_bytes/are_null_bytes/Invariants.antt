use Rattle.std.proofs.Common.{◌≡◌, drop, map}
use Rattle.pm_binrow.specs.Row.{is_null}
use Rattle.pm_binrow.specs.Reading.{are_octets}
use Rattle.pm_binrow.proofs.null_bytes.are_null_bytes.Given as goal

abbrev pub invariant-loop-byte : goal.invariant-loop-byte
invariant-loop-byte l = are_octets (drop l.byte-index l.later) (map is_null l.rest) ≡ are_octets l.later (map is_null l.values)
