use Rattle.std.proofs.Common.{take}
use Rattle.pm_rows.specs.Plain.{IsUnescaped}
use Rattle.pm_rows.proofs.plain.is_unescaped.Given as goal

-- nothing so far is escaped
abbrev pub invariant-loop-byte : goal.invariant-loop-byte
invariant-loop-byte l = IsUnescaped (take l.byte-index l.content)
