use Rattle.std.proofs.Common.{◌<◌, ℕ, get_or}
use Rattle.pm_command.proofs.own.bytes_fit.Given as goal

-- the bytes read so far
abbrev pub invariant-loop-i : goal.invariant-loop-i
invariant-loop-i l = (k : ℕ) → k < l.i → get_or l.session k 0 < 256
