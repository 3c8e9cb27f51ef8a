use Rattle.pm_commit.proofs.CauseLemmas.{caused}
use Rattle.pm_commit.proofs.Facts.{Laws}
use Rattle.pm_commit.proofs.laws.causes_law.Goals as goal

pub returns : goal.returns
returns c =
    let laws : Laws = record {
      joined = (c.joined_law.ensures.left, c.joined_law.ensures.order);
      lists = c.one_reading_law.ensures;
      read = c.read_entry_law.ensures.manifest;
      one = c.one_contents_law.ensures;
      same = c.same_law.ensures;
      paths = c.named_law.ensures;
      live = c.entries_law.ensures;
      newest = c.newest_law.ensures;
      unnamed = c.unnamed_law.ensures.here;
      append = c.append_law.ensures;
      compact = record {
        stays = c.plan_law.ensures;
        given = c.ready_law.ensures.given;
        own = c.ready_law.ensures.own;
        full = c.ready_law.ensures.full;
        change = c.ready_law.ensures.change;
        compacts = c.compaction_law.ensures;
      };
      own_files = c.own_files_law.ensures;
    } in
    caused laws c.causes_law.ensures
