use Rattle.pm_read_expiry.specs.declared.phase.Phase.TheVariants as phases
use Rattle.pm_announce.proofs.Facts.{knows_still}
use Rattle.pm_announce.proofs.laws.known_law.Goals as goal

pub returns : goal.returns
returns c =
    knows_still (record {
      found = λ x. c.known_law-2.ensures (phases.Ready x);
      announced = c.known_law.ensures.announced;
      left = c.known_law.ensures.left;
    })
