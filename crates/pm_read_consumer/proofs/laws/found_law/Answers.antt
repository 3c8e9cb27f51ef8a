use Rattle.pm_read_consumer.proofs.Facts.{found_in, reads_always}
use Rattle.pm_read_consumer.proofs.laws.found_law.Goals as goal

pub returns : goal.returns
returns c = record { found = found_in c.consumers_law.ensures.counts c.consumers_law.ensures.frames; reads = reads_always }
