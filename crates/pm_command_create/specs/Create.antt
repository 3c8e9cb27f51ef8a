-- What the command `create` answers, what it prints, and what it does to a folder.
use Rattle.std.specs.Prelude.{◌≡◌, ◌≢◌, ◌⊎◌, ℕ, List, [], codes, Option, None, Some, IsSome, Result, Ok}
use Rattle.std.specs.FinMap as map
use Rattle.std.specs.Result.{result_err}
use Rattle.pm_base.specs.Known.{and_then}
use Rattle.pm_base.specs.Newline.{line}
use Rattle.pm_values.specs.declared.refusal.Refusal.{Refusal}
use Rattle.pm_values.specs.declared.refusal.Refusal.TheVariants as refusals
use Rattle.pm_io.specs.Sink.{SinkView}
use Rattle.pm_store.specs.Files.{Files}
use Rattle.pm_store.specs.Images.{Extends}
use Rattle.pm_store.specs.Store.{StoreView, FromFirst}
use Rattle.pm_machine.specs.Trace.{HasTrace}
use Rattle.pm_model_history.specs.History.{History, no_table, table}
use Rattle.pm_input.specs.Limits.{limits, IsWithin}
use Rattle.pm_input.specs.Lines.{row_lines}
use Rattle.pm_schema.specs.declared.schema.TableSchema.{TableSchema}
use Rattle.pm_model_folder.specs.Changes.{origin_name}
use Rattle.pm_model_folder.specs.Folder.{Folder}
use Rattle.pm_model_folder.specs.Paths.{schema_path}
use Rattle.pm_create.specs.Creator.{NewTable, new_table, own_origin}
use Rattle.pm_create.specs.Making.{DidMake, LeavesFiles, IsThere, IsAbsent, MakesTables, MayStart}
use Rattle.pm_draft.specs.Draft.{draft_in, IsFirstSchema}
use Rattle.pm_draft.specs.Input.{Making, AnswersDraft, RefusesDraft, MayRefuseDraft}
use Rattle.pm_command.specs.Outside.{actor, Outside, IsUntouched, IsServed, HasNoFault, Prints}
use Rattle.pm_command.specs.declared.start.Start.{Start}

-- what its draft is made into: a table with an origin of the command's own name, at this moment
abbrev pub making : Start → Making
making start = record { origin = origin_name (actor start); now = start.now_millis }

-- the table with a schema that it makes
abbrev pub its_table : Start → TableSchema → NewTable
its_table start s = new_table (actor start) s

-- what it prints
abbrev pub created_text : List ℕ
created_text = line (codes "created")

-- The calls of the store are those that made a table, or show why it wasn't made; and this was printed of it.
abbrev pub MakesAndPrints : NewTable → Outside → Outside → Option Refusal → Type 0
MakesAndPrints t before after answer =
    (made : Result (Unit {0}) Refusal) × HasTrace (DidMake t made) before.store after.store
    × Prints created_text None (result_err made) before.out after.out answer

-- Private: likewise, with what they do to histories
abbrev pub IsMade : NewTable → SinkView → SinkView → StoreView → StoreView → Option Refusal → Type 0
IsMade t out out_after store store_after answer =
    (made : Result (Unit {0}) Refusal) × HasTrace (DidMake t made) store store_after
    × MakesTables t store store_after made × Prints created_text None (result_err made) out out_after answer

-- The input was refused and nothing touched, or it is a draft of a schema and its table was made, or wasn't.
abbrev pub Creates : (TableSchema → Type 0) → (Refusal → Type 0) → Start → Outside → Outside → Option Refusal → Type 0
Creates IsDraft Refuses start before after answer =
    ((e : Refusal) × (answer ≡ Some e) × Refuses e × IsUntouched before after)
    ⊎ ((s : TableSchema) × IsDraft s × MakesAndPrints (its_table start s) before after answer)

-- what `create` answers to an input of these bytes
abbrev pub AnswersCreate : Start → List ℕ → Outside → Outside → Option Refusal → Type 0
AnswersCreate start bytes before after =
    Creates (λ s. AnswersDraft (making start) bytes after.input (Ok s))
    (RefusesDraft (making start) bytes before.input after.input) start before after

-- and what it does whatever the input is
abbrev pub ActsCreate : Start → Outside → Outside → Option Refusal → Type 0
ActsCreate start before after =
    Creates (IsFirstSchema (making start).origin start.now_millis)
    (MayRefuseDraft (making start) before.input after.input) start before after

-- ---- a history that stands at its first call, where nobody else acts from then on

-- the bytes are a draft of this schema
pub record IsDraftOf (start : Start) (bytes : List ℕ) (s : TableSchema) : Type 0 where
  pub within : IsWithin limits bytes
  pub read : draft_in (row_lines bytes) (making start).origin (making start).now ≡ Ok s

-- files stand for the table of a draft, without entries
abbrev pub StandsForDraft : Start → List ℕ → Files → Type 0
StandsForDraft start bytes f = (s : TableSchema) × IsDraftOf start bytes s × Folder f (table s [])

-- What an answer leaves: the table where there was none; after a fault of the store in the swap of the schema the
-- history or the table; and else the history.
abbrev pub LeavesTable : Start → List ℕ → Option Refusal → History → Files → Type 0
LeavesTable start bytes None h f = (h ≡ no_table) × StandsForDraft start bytes f
LeavesTable start bytes (Some (refusals.SinkFault snapshot)) h f = (h ≡ no_table) × StandsForDraft start bytes f
LeavesTable start bytes (Some (refusals.StoreFault path)) h f =
    Folder f h ⊎ ((path ≡ schema_path 0) × (h ≡ no_table) × StandsForDraft start bytes f)
LeavesTable start bytes (Some other) h f = Folder f h

-- files stand for a history, or for the table of a draft where there was none
abbrev pub StandsForEither : Start → List ℕ → History → Files → Type 0
StandsForEither start bytes h f = Folder f h ⊎ ((h ≡ no_table) × StandsForDraft start bytes f)

-- What a crash may leave: files that stand for a history, or for the table of a draft where there was none; and for the
-- latter from the swap on, which put its schema there.
pub record IsImage (start : Start) (bytes : List ℕ) (h : History) (f : Files) : Type 0 where
  pub either : StandsForEither start bytes h f
  pub made : h ≡ no_table → IsSome (map.get f (schema_path 0)) → StandsForDraft start bytes f

-- what was so where a refusal came: a table stood, or a file had the origin's name
abbrev pub HadCause : Start → History → StoreView → Option Refusal → Type 0
HadCause start h first (Some refusals.TableExists) = h ≢ no_table
HadCause start h first (Some (refusals.SessionUsed path)) =
    (path ≡ own_origin (actor start)) × IsThere (own_origin (actor start)) first
HadCause start h first other = Unit {0}

-- What `create` does to a history. At the end of the work there was no table, and the folder stands for the draft's;
-- else what the refusal leaves stands. Each image has the table once its schema is there, and not before. A good draft
-- is served where there is no table, no file of the origin's name and no fault.
pub record CreatesTable (start : Start) (h : History) (bytes : List ℕ) (first : StoreView) (before after : Outside)
    (answer : Option Refusal) : Type 0 where
  pub done : answer ≡ None → (after.input.left ≡ Some []) × (after.out.taken ≡ and_then before.out.taken created_text)
  pub leaves : LeavesFiles (LeavesTable start bytes answer h) after.store
  pub images : Extends (IsImage start bytes h) first.ops after.store.ops
  pub cause : HadCause start h first answer
  pub complete : (s : TableSchema) → IsDraftOf start bytes s → h ≡ no_table → IsAbsent (own_origin (actor start)) first
      → HasNoFault before first after → IsServed answer

-- what it promises of histories, from its first call of the store on: where no other table was made by an actor of its
-- name
abbrev pub CreatesTables : Start → Outside → Outside → Option Refusal → Type 0
CreatesTables start before after answer =
    FromFirst (λ first _. (h : History) (bytes : List ℕ) → LeavesFiles (MayStart (actor start) h) first
    → before.input.left ≡ Some bytes → CreatesTable start h bytes first before after answer) before.store after.store
