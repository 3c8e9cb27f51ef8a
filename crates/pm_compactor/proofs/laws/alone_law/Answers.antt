use Rattle.pm_compactor.proofs.AloneLemmas.{AloneLaws}
use Rattle.pm_compactor.proofs.AloneLemmasStep.{alone-moves}
use Rattle.pm_compactor.proofs.laws.alone_law.Goals as goal

pub returns : goal.returns
returns c = λ old new before after result stepped b.
    let laws : AloneLaws = record {
      held = record {
        joined = (c.joined_law.ensures.left, c.joined_law.ensures.order);
        lists = c.one_reading_law.ensures;
        read = c.read_entry_law.ensures.manifest;
        one = c.one_contents_law.ensures;
        same = c.same_law.ensures;
        paths = c.named_law.ensures;
        live = c.entries_law.ensures;
        newest = c.newest_law.ensures;
        unnamed = c.unnamed_law.ensures.here;
        append = c.append_law.ensures;
        compact = record {
          stays = c.plan_law.ensures;
          given = c.ready_law.ensures.given;
          own = c.ready_law.ensures.own;
          full = c.ready_law.ensures.full;
          change = c.ready_law.ensures.change;
          compacts = c.compaction_law.ensures;
        };
        own_files = c.own_files_law.ensures;
      };
      causes = c.causes_law-2.ensures;
      parts = c.path_law.ensures;
      runs = c.one_runs_law.ensures;
      others = c.unnamed_law.ensures.others;
      whole = c.whole_law.ensures;
      begun = c.begins_law-2.ensures;
      created = c.begins_law.ensures.created;
      own = c.begins_law.ensures.own;
      sound = c.machine_law.ensures.sound;
      may = c.causes_law.ensures;
    } in
    alone-moves laws b stepped
