use Rattle.pm_manifest.proofs.LiveLemmas.{live_at-append, AreInOrder-append, AreInOrder-parts}
use Rattle.pm_manifest.proofs.laws.joined_law.Goals as goal

pub returns-clause-left : goal.returns-clause-left
returns-clause-left c = live_at-append

pub returns-clause-order : goal.returns-clause-order
returns-clause-order c before first then =
    (AreInOrder-parts before first then, λ both. AreInOrder-append before first then both.0 both.1)
