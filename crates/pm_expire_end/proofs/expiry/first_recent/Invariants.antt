use Rattle.std.proofs.Common.{◌≡◌, ℕ, ◌<◌, ◌≤◌, false}
use Rattle.pm_expire_end.specs.Expiry.{is_recent}
use Rattle.pm_expire_end.proofs.expiry.first_recent.Given as goal

-- no snapshot so far is recent
abbrev pub invariant-loop-id : goal.invariant-loop-id
invariant-loop-id l = (k : ℕ) → l.low ≤ k → k < l.id → is_recent l.times l.from k ≡ false
