-- The call of a mover, by its answer: what it does to a history that stands at it, where nobody else acts from then on,
-- and what it does to the past, whatever others do.
use Rattle.std.specs.Prelude.{◌≡◌, ◌≢◌, ◌⊎◌, ℕ, ◌≤◌, List, ◌∷◌, [], length, Some, Result, Ok, Err}
use Rattle.std.specs.FinMap as map
use Rattle.pm_base.specs.Faults.{Rose}
use Rattle.pm_values.specs.declared.refusal.Refusal.{Refusal}
use Rattle.pm_values.specs.declared.refusal.Refusal.TheVariants as refusals
use Rattle.pm_store.specs.Files.{Files}
use Rattle.pm_store.specs.Images.{Extends}
use Rattle.pm_store.specs.Store.{StoreView, FromFirst}
use Rattle.pm_machine.specs.Moves.{IsKept}
use Rattle.pm_machine.specs.Trace.{Event}
use Rattle.pm_model_history.specs.History.{Entry, table}
use Rattle.pm_schema.specs.declared.schema.TableSchema.{TableSchema}
use Rattle.pm_model_folder.specs.Changes.{HavePlainNames}
use Rattle.pm_model_folder.specs.Folder.{Folder, HaveSettled}
use Rattle.pm_model_folder.specs.Ledger.{Past, Stands}
use Rattle.pm_create.specs.Making.{LeavesFiles}
use Rattle.pm_read_schema.specs.AllCalls.{HasFiles}
use Rattle.pm_read_schema.specs.Beside.{OthersAdvance}
use Rattle.pm_beside.specs.Bringing.{Brings}
use Rattle.pm_move_consumer.specs.Mover.{Moving, its_path, moved_text}
use Rattle.pm_move_consumer.specs.MoverMeaning.{IsMovedPast, IsPrinted, MayMovePast, Move}
use Rattle.pm_move_consumer.specs.MoverTrace.{Shows, moved}

-- the calls of a move, by its answer: the consumer was moved, and these are its new bytes; or they show the refusal
abbrev pub DidMove : Moving → Result (List ℕ) Refusal → List Event → Type 0
DidMove m (Ok bytes) own = (bytes ≡ moved_text m) × (own ≡ moved m ∷ [])
DidMove m (Err refusal) own = Shows m refusal own

-- ---- a history that stands at its call, where nobody else acts from then on

-- every other file is as it was
abbrev pub OthersRest : List ℕ → Files → Files → Type 0
OthersRest path f after = (other : List ℕ) → other ≢ path → map.get after other ≡ map.get f other

-- the consumer's file is as it was
abbrev pub ItRests : Moving → Files → Files → Type 0
ItRests m f after = map.get after (its_path m) ≡ map.get f (its_path m)

-- it had the bytes that are expected, and has those of the next number
abbrev pub ItMoves : Moving → Files → Files → Type 0
ItMoves m f after =
    (map.get f (its_path m) ≡ Some m.expected) × (map.get after (its_path m) ≡ Some (moved_text m))

-- what an answer leaves of it: it is moved on; or as it was, but that a fault of the store leaves it so or so
abbrev pub ItLeaves : Moving → Result (List ℕ) Refusal → Files → Files → Type 0
ItLeaves m (Ok bytes) f after = ItMoves m f after
ItLeaves m (Err (refusals.StoreFault path)) f after = ItRests m f after ⊎ ItMoves m f after
ItLeaves m (Err other) f after = ItRests m f after

-- the files stand for the table, and the consumers of these names are settled
pub record StandsWith (s : TableSchema) (entries : List Entry) (names : List (List ℕ)) (f : Files) : Type 0 where
  pub folder : Folder f (table s entries)
  pub settled : HaveSettled f (table s entries) names

-- what an answer needs at the call: the file had the bytes that are expected; or this was found, and it hadn't; or a
-- fault was counted since
abbrev pub IsCaused : Moving → Files → StoreView → StoreView → Result (List ℕ) Refusal → Type 0
IsCaused m f first after (Ok bytes) = map.get f (its_path m) ≡ Some m.expected
IsCaused m f first after (Err refusals.Memory) = Unit {0}
IsCaused m f first after (Err (refusals.ConsumerMoved found)) =
    (map.get f (its_path m) ≡ found) × (found ≢ Some m.expected)
IsCaused m f first after (Err (refusals.StoreFault path)) = (path ≡ its_path m) × Rose first.faults after.faults
IsCaused m f first after (Err other) = ⊥

-- the consumer was moved, or memory ran out
abbrev pub IsMovedOrMemory : Result (List ℕ) Refusal → Type 0
IsMovedOrMemory (Ok bytes) = Unit {0}
IsMovedOrMemory (Err refusals.Memory) = Unit {0}
IsMovedOrMemory (Err other) = ⊥

-- the files stand for the table, whose names lead to no consumer's file; the consumers of these names are settled; and
-- the snapshot that the consumer is moved past is one of the table, whether or not that has gone
pub record MayMove (m : Moving) (s : TableSchema) (entries : List Entry) (names : List (List ℕ)) (f : Files)
    : Type 0 where
  pub stands : StandsWith s entries names f
  pub plain : HavePlainNames s
  pub within : m.next ≤ length entries

-- What a move does to a table that stands at its call, where nobody else acts from then on. Only the consumer's file is
-- another, after it and in each image; the table stands, and who was settled is. Where the file has the bytes that are
-- expected and no fault is counted, it is moved.
pub record MovesName (m : Moving) (s : TableSchema) (entries : List Entry) (names : List (List ℕ)) (f : Files)
    (first after : StoreView) (result : Result (List ℕ) Refusal) : Type 0 where
  pub leaves : LeavesFiles (λ g. OthersRest (its_path m) f g × ItLeaves m result f g
      × StandsWith s entries names g) after
  pub images : Extends (λ g. OthersRest (its_path m) f g × (ItRests m f g ⊎ ItMoves m f g)
      × StandsWith s entries names g) first.ops after.ops
  pub cause : IsCaused m f first after result
  pub complete : map.get f (its_path m) ≡ Some m.expected → (Rose first.faults after.faults → ⊥)
      → IsMovedOrMemory result

-- what it promises of tables, from its call on
abbrev pub MovesNames : Moving → StoreView → StoreView → Result (List ℕ) Refusal → Type 0
MovesNames m before after result =
    FromFirst (λ first after. (s : TableSchema) (entries : List Entry) (names : List (List ℕ)) (f : Files)
    → HasFiles f first → MayMove m s entries names f → MovesName m s entries names f first after result) before after

-- ---- whatever others do

-- what its call makes of the files and of the past, by its answer
abbrev pub ItChanges : Move → Result (List ℕ) Refusal → Files → Past → Files → Past → Type 0
ItChanges m (Ok bytes) f p after later = IsMovedPast m f p after later
ItChanges m (Err (refusals.StoreFault path)) f p after later = MayMovePast m f p after later
ItChanges m (Err other) f p after later = IsKept f p after later

-- To each past in which what was printed is the frame its call brings this, whatever others do.
abbrev pub MovesOn : Move → Result (List ℕ) Refusal → StoreView → StoreView → Type 0
MovesOn m result before after = Brings Stands (ItChanges m result) OthersAdvance
    (λ f p. IsPrinted m p.history) (λ f p. IsPrinted m p.history) before after
