-- What a reader of a frame knows stays true, whatever others do.
use Rattle.std.proofs.Common.{◌≡◌, ℕ, ◌≤◌, List, [], ◌++◌, length, refl, sym, ap, subst, ◌∙◌}
use Rattle.std.specs.List.{flat_map}
use Rattle.pm_base.specs.Newline.{line}
use Rattle.pm_values.specs.declared.record.Stamped.{Stamped}
use Rattle.pm_store.specs.Files.{Files}
use Rattle.pm_rows.specs.RowText.{row_text}
use Rattle.pm_model_history.specs.History.{GoesOn, History, no_table, table}
use Rattle.pm_model_history.specs.Merge.{HistoryRow}
use Rattle.pm_model_following.specs.Following.{frame_head}
use Rattle.pm_model_folder.specs.Changes.{Actor}
use Rattle.pm_model_folder.specs.Folder.{Folder, HasTable}
use Rattle.pm_model_folder.specs.Ledger.{Advances, Past, Stands, count_of}
use Rattle.pm_model_folder.proofs.Facts.{goes_on}
use Rattle.pm_model_folder.proofs.LedgerFacts.{known-still}
use Rattle.pm_read_log.specs.declared.log.Log.{Log}
use Rattle.pm_read_log.specs.declared.log_phase.LogPhase.TheVariants as logs
use Rattle.pm_read_log.proofs.LogFacts as log_facts
use Rattle.pm_read_frame.specs.Meaning.{HasTaken, IsFrame}
use Rattle.pm_read_frame.specs.Taken.{HaveTaken}
use Rattle.pm_read_frame.specs.declared.file.ChangesFile.{ChangesFile}
use Rattle.pm_read_frame.proofs.ChangeLemmas.{ChangeKept}

pub taken_kept : (other : Actor) (f after : Files) (p q : Past) (l : Log) (rows : List Stamped) (left : List ChangesFile) → Stands f p → Advances other f p after q
    → HasTaken p l rows left → HasTaken q l rows left
taken_kept other f after p q l rows left stands advances taken = record {
  is_log = log_facts.knows_still (logs.Ready l) other f after p q stands advances taken.is_log;
  done = taken.done;
  parts = taken.parts;
  taken = subst (λ (g : Files). HaveTaken g l.schema taken.done [] rows) (sym (advances.same l.snapshot.id taken.is_log.0.known)) taken.taken;
}

pub frame_kept : ChangeKept → (other : Actor) (f after : Files) (p q : Past) (id : ℕ) (text : List ℕ) → Stands f p → Advances other f p after q → IsFrame p id text
    → IsFrame q id text
frame_kept kept other f after p q id text stands advances frame =
    by_later q.history refl (subst (λ (h : History). GoesOn h q.history) frame.is_table (goes_on other f after p.history q.history advances.change))
  where
    folder : HasTable f frame.schema frame.entries
    folder = subst (Folder f) frame.is_table stands.folder

    within : id ≤ length frame.entries
    within = subst (λ (h : History). id ≤ count_of h) frame.is_table frame.known.to

    by_later : (later : History) → q.history ≡ later → GoesOn (table frame.schema frame.entries) later → IsFrame q id text
    by_later no_table is more = absurd more
    by_later (table t later) is more = record {
      schema = frame.schema;
      entries = frame.entries ++ more.1;
      is_table = is ∙ (λ i. table (more.0 i) (more.2 i));
      known = known-still other f after p q id advances frame.known;
      is_text = λ one. frame.is_text one
          ∙ ap (λ (rows : List HistoryRow). frame_head id ++ flat_map (λ (r : HistoryRow). line (row_text r.0 r.1)) rows)
          (sym (kept frame.schema frame.entries more.1 id folder.history.bases within));
    }
