-- All calls of a creator, one after another: what they are, and what they do to a history that stands at the first one,
-- where nobody else acts from then on.
use Rattle.std.specs.Prelude.{◌≡◌, ◌≢◌, ◌⊎◌, ℕ, List, [], ◌∷◌, None, IsSome, IsSomeAnd, Result, Ok, Err, IfOk}
use Rattle.std.specs.FinMap as map
use Rattle.pm_base.specs.Faults.{Rose}
use Rattle.pm_values.specs.declared.refusal.Refusal.{Refusal}
use Rattle.pm_values.specs.declared.refusal.Refusal.TheVariants as refusals
use Rattle.pm_store.specs.declared.call.Call.{Call}
use Rattle.pm_store.specs.Files.{Files, files_after}
use Rattle.pm_store.specs.Images.{Extends}
use Rattle.pm_store.specs.Store.{StoreView, FromFirst}
use Rattle.pm_machine.specs.Trace.{Event}
use Rattle.pm_model_history.specs.History.{History, no_table, table}
use Rattle.pm_schema.specs.declared.schema.TableSchema.{TableSchema}
use Rattle.pm_model_folder.specs.Changes.{Actor, IsNoOrigin}
use Rattle.pm_model_folder.specs.Folder.{Folder}
use Rattle.pm_model_folder.specs.Paths.{schema_path}
use Rattle.pm_create.specs.Creator.{NewTable, own_origin, origin_call}
use Rattle.pm_create.specs.Trace.{made_origin, made_table, Shows}

-- The calls of the making of a table, by its answer: the origin was made and then the schema swapped in; or they show
-- the refusal.
abbrev pub DidMake : NewTable → Result (Unit {0}) Refusal → List Event → Type 0
DidMake t (Ok x) own = own ≡ made_origin t ∷ made_table t ∷ []
DidMake t (Err refusal) own = Shows t refusal own

-- its first call
abbrev pub first_call : NewTable → Call
first_call t = origin_call (own_origin t.me)

-- the store's operations are known, and leave files with P
abbrev pub LeavesFiles : (Files → Type 0) → StoreView → Type 0
LeavesFiles P store = IsSomeAnd store.ops (λ ops. P (files_after ops))

-- files stand for a history, or for this table where that was none
abbrev pub StandsForEither : TableSchema → History → Files → Type 0
StandsForEither s h f = Folder f h ⊎ ((h ≡ no_table) × Folder f (table s []))

-- What an answer leaves of a history: this table where there was none; after a fault of the store in the swap of the
-- schema the history or this table; and else the history.
abbrev pub LeavesHistory : TableSchema → History → Result (Unit {0}) Refusal → Files → Type 0
LeavesHistory s h (Ok x) f = (h ≡ no_table) × Folder f (table s [])
LeavesHistory s h (Err (refusals.StoreFault path)) f =
    Folder f h ⊎ ((path ≡ schema_path 0) × (h ≡ no_table) × Folder f (table s []))
LeavesHistory s h (Err other) f = Folder f h

-- a file is at a path, and none is
abbrev pub IsThere : List ℕ → StoreView → Type 0
IsThere path store = LeavesFiles (λ f. IsSome (map.get f path)) store

abbrev pub IsAbsent : List ℕ → StoreView → Type 0
IsAbsent path store = LeavesFiles (λ f. map.get f path ≡ None) store

-- What a refusal needs at the first call: its session is used only where the origin's path is there, and a table exists
-- only where there is one. A fault of the store was counted since.
abbrev pub IsCaused : NewTable → History → StoreView → StoreView → Result (Unit {0}) Refusal → Type 0
IsCaused t h first after (Ok x) = Unit {0}
IsCaused t h first after (Err refusals.Memory) = Unit {0}
IsCaused t h first after (Err (refusals.SessionUsed path)) = (path ≡ own_origin t.me) × IsThere path first
IsCaused t h first after (Err refusals.TableExists) = h ≢ no_table
IsCaused t h first after (Err (refusals.StoreFault path)) = Rose first.faults after.faults
IsCaused t h first after (Err other) = ⊥

-- the table was made, or memory ran out
abbrev pub IsMadeOrMemory : Result (Unit {0}) Refusal → Type 0
IsMadeOrMemory (Ok x) = Unit {0}
IsMadeOrMemory (Err refusals.Memory) = Unit {0}
IsMadeOrMemory (Err other) = ⊥

-- What the making of a table does to a history that stands at its first call, where nobody else acts from then on. Once
-- the table is made each image stands for it, and before that each image stands for the history or for this table,
-- where there was none. Where there is no table, the origin's path is absent and no fault is counted, it is made.
pub record MakesTable (t : NewTable) (h : History) (first after : StoreView) (result : Result (Unit {0}) Refusal)
    : Type 0 where
  pub leaves : LeavesFiles (LeavesHistory t.schema h result) after
  pub images : Extends (StandsForEither t.schema h) first.ops after.ops
  pub settles : IfOk result (λ x. Extends (λ f. Folder f (table t.schema [])) after.ops after.ops)
  pub cause : IsCaused t h first after result
  pub complete : h ≡ no_table → IsAbsent (own_origin t.me) first → (Rose first.faults after.faults → ⊥)
      → IsMadeOrMemory result

-- where the file is absent, it isn't that of the origin that the table's schema names
abbrev pub IsFreeOrigin : List ℕ → Files → History → Type 0
IsFreeOrigin path f h = map.get f path ≡ None → IsNoOrigin h path

-- The files stand for the history, and the actor's origin isn't one that went with an old snapshot of its table: no
-- other table was made by an actor of this name.
abbrev pub MayStart : Actor → History → Files → Type 0
MayStart me h f = Folder f h × IsFreeOrigin (own_origin me) f h

-- what it promises of histories, from its first call on
abbrev pub MakesTables : NewTable → StoreView → StoreView → Result (Unit {0}) Refusal → Type 0
MakesTables t before after result =
    FromFirst (λ first after. (h : History) → LeavesFiles (MayStart t.me h) first → MakesTable t h first after result)
    before after
