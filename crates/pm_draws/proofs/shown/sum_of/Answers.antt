use Rattle.std.proofs.Common.{rules, ◌≡◌, ◌+◌, pos, ◌+ℤ◌, ap, to_z, of_z, SFits, arith}
use Rattle.std.proofs.Math.ListN.{drop, get_or}
use Rattle.std.specs.Int.{w128}
use Rattle.std.proofs.lemmas.Int.{ints, to_z-of_z}
use Rattle.std.proofs.lemmas.List.{drop_more}
use Rattle.pm_draws.specs.Shown.{sum_of}
use Rattle.pm_draws.proofs.shown.sum_of.Goals as goal

-- one number more is added
pub loop-number-preserved : goal.loop-number-preserved
loop-number-preserved c =
    let xs = c.args.numbers.now in
    let i = c.loop-number.number-index in
    let r = c.added-sum.result in
    let fits : SFits w128 r = search rules in
    let same : to_z w128 (of_z w128 r) ≡ r = to_z-of_z w128 r fits in
    let sums : sum_of (drop i xs) ≡ get_or xs i (pos 0) +ℤ sum_of (drop (i + 1) xs) =
    ap sum_of (drop_more xs i (pos 0) (search rules)) in
    rw same (
      omega (arith, ints, c.loop-number.invariant.0, sums, c.added-sum.ensures.sum),
      omega (arith, ints, c.loop-number.invariant.1, c.added-sum.ensures.low),
      omega (arith, ints, c.loop-number.invariant.2, c.added-sum.ensures.high),
    )
