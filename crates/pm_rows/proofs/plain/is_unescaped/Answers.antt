use Rattle.pm_rows.proofs.PlainLemmas.{unescaped_next}
use Rattle.pm_rows.proofs.plain.is_unescaped.Goals as goal

pub loop-byte-preserved : goal.loop-byte-preserved
loop-byte-preserved c =
    unescaped_next c.args.content.now c.loop-byte.byte-index c.loop-byte-test.true c.loop-byte.invariant c.if-byte-lt32.false c.if-byte-eq34.false c.if-byte-eq92.false
