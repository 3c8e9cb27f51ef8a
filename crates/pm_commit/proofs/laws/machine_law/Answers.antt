use Rattle.pm_commit.proofs.AloneLemmas.{alone-moves}
use Rattle.pm_commit.proofs.Facts.{Laws, sound}
use Rattle.pm_commit.proofs.TraceLemmas.{recounts, recounts-later}
use Rattle.pm_commit.proofs.laws.machine_law.Goals as goal

pub returns-clause-sound : goal.returns-clause-sound
returns-clause-sound c =
    let laws : Laws = record {
      joined = (c.joined_law.ensures.left, c.joined_law.ensures.order);
      lists = c.one_reading_law.ensures;
      read = c.read_entry_law.ensures.manifest;
      one = c.one_contents_law.ensures;
      same = c.same_law.ensures;
      paths = c.named_law.ensures;
      live = c.entries_law.ensures;
      newest = c.newest_law.ensures;
      unnamed = c.unnamed_law.ensures.here;
      append = c.append_law.ensures;
      compact = record {
        stays = c.plan_law.ensures;
        given = c.ready_law.ensures.given;
        own = c.ready_law.ensures.own;
        full = c.ready_law.ensures.full;
        change = c.ready_law.ensures.change;
        compacts = c.compaction_law.ensures;
      };
      own_files = c.own_files_law.ensures;
    } in
    sound laws

pub returns-clause-alone : goal.returns-clause-alone
returns-clause-alone c = λ old new before after result stepped b.
    let laws : Laws = record {
      joined = (c.joined_law.ensures.left, c.joined_law.ensures.order);
      lists = c.one_reading_law.ensures;
      read = c.read_entry_law.ensures.manifest;
      one = c.one_contents_law.ensures;
      same = c.same_law.ensures;
      paths = c.named_law.ensures;
      live = c.entries_law.ensures;
      newest = c.newest_law.ensures;
      unnamed = c.unnamed_law.ensures.here;
      append = c.append_law.ensures;
      compact = record {
        stays = c.plan_law.ensures;
        given = c.ready_law.ensures.given;
        own = c.ready_law.ensures.own;
        full = c.ready_law.ensures.full;
        change = c.ready_law.ensures.change;
        compacts = c.compaction_law.ensures;
      };
      own_files = c.own_files_law.ensures;
    } in
    alone-moves laws c.causes_law.ensures c.path_law.ensures b stepped

pub returns-clause-recounts : goal.returns-clause-recounts
returns-clause-recounts c = λ s first. recounts s first (c.joined_law.ensures.left, c.joined_law.ensures.order)

pub returns-clause-later : goal.returns-clause-later
returns-clause-later c = λ s first made none. recounts-later s first made none (c.joined_law.ensures.left, c.joined_law.ensures.order)
