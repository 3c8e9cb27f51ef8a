-- What all calls of an expirer bring to a table's past: whatever others do before, between and after them; and where
-- nobody else acts.
use Rattle.std.specs.Prelude.{ℕ, List, Result, Ok, Err}
use Rattle.pm_values.specs.declared.refusal.Refusal.{Refusal}
use Rattle.pm_store.specs.Files.{Files}
use Rattle.pm_store.specs.Images.{Extends}
use Rattle.pm_store.specs.Store.{StoreView, IsAlone}
use Rattle.pm_machine.specs.Moves.{IsKept}
use Rattle.pm_machine.specs.Trace.{Event}
use Rattle.pm_schema.specs.declared.schema.TableSchema.{TableSchema}
use Rattle.pm_model_history.specs.History.{IsTableOf}
use Rattle.pm_model_folder.specs.Changes.{Actor}
use Rattle.pm_model_folder.specs.Ledger.{Past, Stands}
use Rattle.pm_create.specs.Making.{LeavesFiles}
use Rattle.pm_read_schema.specs.Beside.{OthersAdvance}
use Rattle.pm_beside.specs.Bringing.{Brings}
use Rattle.pm_snapshots.specs.AllCalls.{GoesOnFrom}
use Rattle.pm_read_expiry.specs.declared.asking.Asking.{Asking}
use Rattle.pm_read_expiry.specs.declared.asking.Found.{Found}
use Rattle.pm_announce.specs.Meaning.{Announces}
use Rattle.pm_expire.specs.Meaning.{IsTold, Knows, KnowsDone, Removes}
use Rattle.pm_expire.specs.Trace.{Did}
use Rattle.pm_expire.specs.declared.all_calls.Kept.{Kept}
use Rattle.pm_expire.specs.declared.phase.Phase.{Phase}

-- ---- whatever others do

-- What an own call changes: nothing; or a floor appears; or one path goes. Each is a kind of change, and what is known
-- stays.
pub data Expires (me : Actor) (f : Files) (p : Past) (after : Files) (later : Past) : Type 0 where
  changes_none : IsKept f p after later → Expires me f p after later
  announces : (x : Found) → Announces me x f p after later → Expires me f p after later
  removes : (path : List ℕ) → Removes me path f p after later → Expires me f p after later

-- what is known then of the answer, and of a refusal at the call that shows it
abbrev pub KnowsAnswer : Result Kept Refusal → Files → Past → Type 0
KnowsAnswer (Ok kept) f p = KnowsDone kept.first kept.last f p
KnowsAnswer (Err refusal) f p = IsTold refusal f p

-- To each past that has the table its calls bring such changes alone, and what is known of the answer, whatever others
-- do.
abbrev pub ExpiresBeside : Actor → TableSchema → Result Kept Refusal → StoreView → StoreView → Type 0
ExpiresBeside me s result before after =
    Brings Stands (Expires me) OthersAdvance (λ f p. IsTableOf s p.history) (KnowsAnswer result) before after

-- ---- where nobody else acts

-- Each past that has the table stands on, with all that is known, and each image stands for it.
abbrev pub ExpiresAlone : TableSchema → StoreView → StoreView → Type 0
ExpiresAlone s before after = IsAlone before after → (p : Past) → IsTableOf s p.history
    → LeavesFiles (λ f. Stands f p) before
    → LeavesFiles (λ f. Stands f p) after × Extends (λ f. Stands f p) before.ops after.ops

-- ---- from a phase on

-- its calls so far, which go on from those that read the schema
abbrev pub HasCome : Asking → Phase → List Event → Type 0
HasCome a m own = GoesOnFrom a.schema own × Did a m own

-- what its further calls bring, whatever others do
abbrev pub BringsFrom : Actor → Phase → Result Kept Refusal → StoreView → StoreView → Type 0
BringsFrom me m result before after =
    Brings Stands (Expires me) OthersAdvance (Knows m) (KnowsAnswer result) before after

-- the files stand for the past, and of both this is known
abbrev pub StandsKnown : Phase → Past → Files → Type 0
StandsKnown m p f = Stands f p × Knows m f p

-- and where nobody else acts that past stands on
abbrev pub ExpiresFrom : Phase → StoreView → StoreView → Type 0
ExpiresFrom m before after = IsAlone before after → (p : Past) → LeavesFiles (StandsKnown m p) before
    → LeavesFiles (λ f. Stands f p) after × Extends (λ f. Stands f p) before.ops after.ops
