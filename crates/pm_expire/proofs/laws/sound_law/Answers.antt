use Rattle.pm_read_expiry.specs.declared.phase.Phase.TheVariants as reads
use Rattle.pm_announce.proofs.Facts as announcing_facts
use Rattle.pm_expire.proofs.Facts.{sound}
use Rattle.pm_expire.proofs.laws.sound_law.Goals as goal

pub returns : goal.returns
returns c =
    sound (record {
      stays = c.past_law.ensures;
      announcer = announcing_facts.sound (record {
        stays = c.past_law.ensures;
        found = λ x. c.known_law-2.ensures (reads.Ready x);
        appears = c.announces_law.ensures.change;
        announces = c.announces_law.ensures.known;
        lists = c.reads_law.ensures.lists;
        reads = c.reads_law.ensures.reads;
        names = c.listed_law.ensures;
      });
      announced = c.known_law.ensures;
      joined = (c.joined_law.ensures.left, c.joined_law.ensures.order);
      list = c.one_reading_law.ensures;
      paths = c.paths_law.ensures;
      begins = c.removes_law.ensures.begins;
      removes = c.removes_law.ensures.change;
      leaves = c.removes_law.ensures.rest;
    })
