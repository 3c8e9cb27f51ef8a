use Rattle.std.proofs.Common.{◌≡◌, ℕ, min, arith}
use Rattle.std.proofs.lemmas.Bool.Decides.{nat_tests}
use Rattle.pm_run_writer.proofs.LoopLemmas.{least_step}
use Rattle.pm_run_writer.proofs.writer.least_of.Goals as goal
use Rattle.pm_run_writer.proofs.writer.least_of.Goals.{then-row-least, else-row-least}

pub loop-row-preserved : goal.loop-row-preserved
loop-row-preserved c =
    let n : ℕ = c.loop-row.least in
    let m : ℕ = c.if-row-least.least in
    let seq : ℕ = c.row-item.result.seq in
    let so : m ≡ min n seq = elim c.if-row-least.branch [
      | then-row-least w ↦ let test = w.if-row-least in let is = w.least-is in grind (arith, nat_tests)
      | else-row-least w ↦ let test = w.if-row-least in let is = w.least-is in grind (arith, nat_tests)
    ] in
    least_step c.args.rows.now c.loop-row.row-index c.row-item.result c.loop-row-test.true c.row-item.is n _ m so c.loop-row.invariant
