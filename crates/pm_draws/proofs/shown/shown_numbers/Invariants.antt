use Rattle.std.proofs.Common.{◌≡◌, map}
use Rattle.std.specs.List.{flat_map}
use Rattle.pm_draws.specs.Shown.{numbers_at}
use Rattle.pm_draws.proofs.shown.shown_numbers.Given as goal

-- the numbers of the lines up to this one
abbrev pub invariant-loop-line : goal.invariant-loop-line
invariant-loop-line l = l.numbers.items ≡ flat_map numbers_at (map (λ x. x.now) l.yielded)
