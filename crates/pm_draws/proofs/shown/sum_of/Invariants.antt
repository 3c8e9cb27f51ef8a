use Rattle.std.proofs.Common.{◌≡◌, ◌*◌, ◌^◌, pos, ◌+ℤ◌, ◌-ℤ◌, ◌≤ℤ◌}
use Rattle.std.specs.Prelude.{drop}
use Rattle.pm_draws.specs.Shown.{sum_of}
use Rattle.pm_draws.proofs.shown.sum_of.Given as goal

-- the numbers up to this one are added, each of 64 bits
abbrev pub invariant-loop-number : goal.invariant-loop-number
invariant-loop-number l =
    (sum_of l.numbers ≡ l.sum +ℤ sum_of (drop l.number-index l.numbers))
    × ((pos 0 -ℤ pos (l.number-index * 2 ^ 63)) ≤ℤ l.sum) × (l.sum ≤ℤ pos (l.number-index * 2 ^ 63))
