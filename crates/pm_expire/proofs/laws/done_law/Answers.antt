use Rattle.pm_expire.proofs.DoneLemmas.{counts_for}
use Rattle.pm_expire.proofs.laws.done_law.Goals as goal

pub returns : goal.returns
returns c = counts_for c.consumers_law.ensures.counts c.consumer_law.ensures.next
