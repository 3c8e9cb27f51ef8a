use Rattle.pm_read_expiry.specs.declared.phase.Phase.TheVariants as phases
use Rattle.pm_announce.proofs.Facts.{images}
use Rattle.pm_announce.proofs.laws.images_law.Goals as goal

pub returns : goal.returns
returns c =
    images (record {
      stays = c.past_law.ensures;
      found = λ x. c.known_law.ensures (phases.Ready x);
      appears = c.announces_law.ensures.change;
      announces = c.announces_law.ensures.known;
      lists = c.reads_law.ensures.lists;
      reads = c.reads_law.ensures.reads;
      names = c.listed_law.ensures;
    })
