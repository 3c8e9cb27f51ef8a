use Rattle.pm_read_expiry.proofs.TimesLemmas.{next_more}
use Rattle.pm_read_expiry.proofs.times.least_next.Goals as goal

pub loop-named-preserved : goal.loop-named-preserved
loop-named-preserved c =
    next_more c.args.consumers.now c.loop-named.named-index c.named-item.result c.loop-named.least c.lesser.result c.loop-named-test.true c.named-item.is
    c.lesser.ensures c.loop-named.invariant
