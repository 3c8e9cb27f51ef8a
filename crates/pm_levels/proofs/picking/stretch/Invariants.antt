use Rattle.std.proofs.Common.{◌≡◌, ℕ, ◌-◌, ◌^◌, ◌<◌, ◌≤◌, min, take, false}
use Rattle.pm_levels.specs.Picking.{bytes_in, is_large}
use Rattle.pm_levels.proofs.picking.stretch.Given as goal

-- no run so far is large, from the least one on
abbrev pub invariant-loop-index : goal.invariant-loop-index
invariant-loop-index l = record {
  bytes : l.bytes ≡ min (bytes_in (take l.index l.runs)) (2 ^ 128 - 1);
  small : (k : ℕ) → l.least ≤ k → k < l.index → is_large l.runs l.rule k ≡ false;
}
