use Rattle.pm_expire.proofs.Facts.{knows_still}
use Rattle.pm_expire.proofs.laws.known_law.Goals as goal

pub returns : goal.returns
returns c =
    knows_still (record {
      announced = c.known_law.ensures;
      found = c.known_law-3.ensures;
      viewed = c.known_law-4.ensures;
      removals = c.known_law-2.ensures.removals;
      between = c.known_law-2.ensures.between;
    })
