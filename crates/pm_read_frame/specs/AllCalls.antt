-- All calls of a reader of a frame, one after another: what they are, and what they say of a history that stands at the
-- first, where nobody else acts from then on.
use Rattle.std.specs.Prelude.{◌≡◌, ℕ, ◌≤◌, List, length, IsSome, None, Result, Ok, Err, IfOk, IfErr, Vec}
use Rattle.std.specs.FinMap as map
use Rattle.std.specs.Global.{Global}
use Rattle.pm_base.specs.Faults.{Rose}
use Rattle.pm_values.specs.declared.refusal.Refusal.{Refusal}
use Rattle.pm_values.specs.declared.refusal.Refusal.TheVariants as refusals
use Rattle.pm_store.specs.Files.{Files}
use Rattle.pm_store.specs.Store.{StoreView, FromFirst}
use Rattle.pm_machine.specs.Trace.{Event}
use Rattle.pm_schema.specs.declared.schema.TableSchema.{TableSchema}
use Rattle.pm_model_history.specs.History.{Entry}
use Rattle.pm_snapshot.specs.Names.{greatest}
use Rattle.pm_model_following.specs.Following.{frame}
use Rattle.pm_model_folder.specs.Folder.{HasTable}
use Rattle.pm_model_folder.specs.Paths.{snapshot_path}
use Rattle.pm_read_schema.specs.AllCalls.{HasFiles, Stay}
use Rattle.pm_read_log.specs.Log.{LogAskedView, log_asked_of}
use Rattle.pm_read_frame.specs.Meaning.{HasProducer}
use Rattle.pm_read_frame.specs.Trace.{HasFrame, Shows}

-- the text of an answer, wherever it lies in memory
abbrev pub text_in : Result (Vec ℕ Global) Refusal → Result (List ℕ) Refusal
text_in (Ok text) = Ok text.items
text_in (Err refusal) = Err refusal

-- the calls of the reading of the frame of a snapshot by their answer: it has this text, or they show the refusal
abbrev pub Ends : LogAskedView → Result (List ℕ) Refusal → List Event → Type 0
Ends a (Ok text) own = HasFrame a text own
Ends a (Err refusal) own = Shows a refusal own

abbrev pub DidFrame : TableSchema → ℕ → Result (List ℕ) Refusal → List Event → Type 0
DidFrame s id result own = Ends (log_asked_of s id) result own

-- What a refusal needs where the files stand for a history: the snapshot isn't there; a fault of the store was counted;
-- or memory ran out.
abbrev pub IsCaused : Files → ℕ → StoreView → StoreView → Refusal → Type 0
IsCaused f id first after refusals.Memory = Unit {0}
IsCaused f id first after (refusals.StoreFault path) = Rose first.faults after.faults
IsCaused f id first after (refusals.Expired gone) = (gone ≡ id) × (map.get f (snapshot_path id) ≡ None)
IsCaused f id first after other = ⊥

-- What the reading of a frame is where the files stand for a table with these entries at the first call, and nobody
-- else acts from then on: the files stay, the snapshot is there, the text is its frame, and a refusal has its cause.
pub record ReadsFrame (f : Files) (s : TableSchema) (entries : List Entry) (id : ℕ) (first after : StoreView)
    (result : Result (List ℕ) Refusal) : Type 0 where
  pub files : Stay f first after
  pub within : IfOk result (λ text. id ≤ length entries)
  pub there : IfOk result (λ text. IsSome (map.get f (snapshot_path id)))
  pub text : IfOk result (λ text. HasProducer s → text ≡ frame s entries id)
  pub cause : IfErr result (IsCaused f id first after)

-- what it promises of histories, from the first call on, where the id may stand in a name
abbrev pub ReadsFrames : TableSchema → ℕ → StoreView → StoreView → Result (List ℕ) Refusal → Type 0
ReadsFrames s id before after result =
    FromFirst (λ first after. (f : Files) (entries : List Entry) → HasFiles f first → HasTable f s entries
    → id ≤ greatest → ReadsFrame f s entries id first after result) before after
