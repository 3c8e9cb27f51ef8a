use Rattle.pm_compactor.proofs.SoundLemmas.{SoundLaws, is-sound}
use Rattle.pm_compactor.proofs.TraceLemmas.{recounts}
use Rattle.pm_compactor.proofs.laws.machine_law.Goals as goal

pub returns-clause-sound : goal.returns-clause-sound
returns-clause-sound c =
    let laws : SoundLaws = record {
      joined = (c.joined_law.ensures.left, c.joined_law.ensures.order);
      lists = c.one_reading_law.ensures;
      read = c.read_entry_law.ensures.manifest;
      views = record {
        one = c.one_contents_law.ensures;
        runs = c.one_runs_law.ensures;
        view = c.view_law.ensures;
        newest = c.prefix_law.ensures.newest;
        kept = c.prefix_law.ensures.kept;
        rising = c.choices_law.ensures.rising;
        each = c.choices_law.ensures.each;
        stored = c.stored_law.ensures;
      };
      rows = λ s bytes rows others one other. c.one_list_law.ensures.one s _ bytes rows others one other;
      kept = c.known_log_law.ensures.kept;
      whole = c.whole_law.ensures;
      plans = record { begins = c.planned_law.ensures.begins; grows = c.planned_law.ensures.grows; named = c.planned_law.ensures.named; whole = c.planned_law.ensures.whole };
      commits = record {
        begins = c.begins_law.ensures.begins;
        created = c.begins_law.ensures.created;
        own = c.begins_law.ensures.own;
        sound = c.held_law.ensures.sound;
      };
      still = c.compactor_law.ensures.still;
    } in
    is-sound laws

pub returns-clause-recounts : goal.returns-clause-recounts
returns-clause-recounts c = λ a. recounts (c.joined_law.ensures.left, c.joined_law.ensures.order) c.held_law.ensures.later a
