use Rattle.std.proofs.Common.{◌≤ℤ◌, SFits, w64, arith}
use Rattle.std.proofs.lemmas.Int.{ints, to_z-of_z}
use Rattle.pm_row_lines.proofs.IntegerLemmas.{integer_of_text}
use Rattle.pm_row_lines.proofs.tokens.take_integer.Goals as goal

pub returns-then-n-high : goal.returns-then-n-high
returns-then-n-high c =
    let n = c.in_ok-n.n in
    let above : c.args.low ≤ℤ n = omega (arith, ints) in
    let below : n ≤ℤ c.args.high = omega (arith, ints) in
    let fits : SFits w64 n = omega (arith, ints) in
    rw (c.in-Number.is, to_z-of_z w64 n fits)
    (integer_of_text c.in-Number.text.now c.args.low c.args.high n above below c.in_ok-n.ensures)
