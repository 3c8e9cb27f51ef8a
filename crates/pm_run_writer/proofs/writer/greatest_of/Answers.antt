use Rattle.std.proofs.Common.{◌≡◌, ℕ, max, arith}
use Rattle.std.proofs.lemmas.Bool.Decides.{nat_tests}
use Rattle.pm_run_writer.proofs.LoopLemmas.{greatest_step}
use Rattle.pm_run_writer.proofs.writer.greatest_of.Goals as goal
use Rattle.pm_run_writer.proofs.writer.greatest_of.Goals.{then-row-greatest, else-row-greatest}

pub loop-row-preserved : goal.loop-row-preserved
loop-row-preserved c =
    let n : ℕ = c.loop-row.greatest in
    let m : ℕ = c.if-row-greatest.greatest in
    let seq : ℕ = c.row-item.result.seq in
    let so : m ≡ max n seq = elim c.if-row-greatest.branch [
      | then-row-greatest w ↦ let test = w.if-row-greatest in let is = w.greatest-is in grind (arith, nat_tests)
      | else-row-greatest w ↦ let test = w.if-row-greatest in let is = w.greatest-is in grind (arith, nat_tests)
    ] in
    greatest_step c.args.rows.now c.loop-row.row-index c.row-item.result c.loop-row-test.true c.row-item.is n _ m so c.loop-row.invariant
