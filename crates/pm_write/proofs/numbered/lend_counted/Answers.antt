use Rattle.std.proofs.Common.{ap, arith}
use Rattle.pm_values.specs.declared.record.Stamped.{Stamped}
use Rattle.pm_write.proofs.FileOfRunLemmas.{blank}
use Rattle.pm_write.proofs.numbered.lend_counted.Goals as goal

-- the number can be counted on
pub overflow_add-seen : goal.overflow_add-seen
overflow_add-seen c =
    let number = ap (λ (x : Stamped). x.seq) (c.in_ok-lend.ensures blank) in
    omega (arith, number, c.requires.counts blank)
