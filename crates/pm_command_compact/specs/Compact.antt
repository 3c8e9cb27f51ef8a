-- What the command `compact` answers, what it prints, and what it does to a history.
use Rattle.std.specs.Prelude.{◌≡◌, ◌≢◌, ◌⊎◌, ◌+◌, ◌≤◌, List, [], ◌++◌, codes, decimal, Bool, Option, None, Some, IsSome}
use Rattle.std.specs.Prelude.{ℕ, Result, Ok, Err}
use Rattle.std.specs.FinMap as map
use Rattle.std.specs.Result.{result_err}
use Rattle.pm_base.specs.Faults.{Rose}
use Rattle.pm_base.specs.Known.{and_then}
use Rattle.pm_base.specs.Newline.{line}
use Rattle.pm_values.specs.Names.{naming}
use Rattle.pm_values.specs.declared.group.Group.{Group}
use Rattle.pm_values.specs.declared.refusal.Refusal.{Refusal}
use Rattle.pm_values.specs.declared.refusal.Refusal.TheVariants as refusals
use Rattle.pm_io.specs.Sink.{SinkView, SinkFailed, TookPrefix}
use Rattle.pm_store.specs.Files.{Files}
use Rattle.pm_store.specs.Images.{Extends}
use Rattle.pm_store.specs.Store.{StoreView, FromFirst}
use Rattle.pm_machine.specs.Trace.{Event, HasTrace}
use Rattle.pm_model_history.specs.History.{History, compaction, no_table}
use Rattle.pm_schema.specs.Again.{IsDeclared}
use Rattle.pm_schema.specs.declared.schema.TableSchema.{TableSchema}
use Rattle.pm_snapshot.specs.Names.{greatest}
use Rattle.pm_model_folder.specs.Changes.{Actor}
use Rattle.pm_model_folder.specs.Folder.{Folder}
use Rattle.pm_model_folder.specs.Ledger.{count_of}
use Rattle.pm_choice.specs.Choice.{named_groups}
use Rattle.pm_plan.specs.declared.planned.Asking.{Asking}
use Rattle.pm_create.specs.Making.{LeavesFiles}
use Rattle.pm_read_schema.specs.Trace as reader
use Rattle.pm_read_schema.specs.declared.phase.Phase.TheVariants as readers
use Rattle.pm_read_table.specs.declared.view.View.{View}
use Rattle.pm_commit.specs.AllCalls.{AddsAlone, MayStart}
use Rattle.pm_commit.specs.Alone.{with_entry}
use Rattle.pm_compactor.specs.AllCalls as compactor
use Rattle.pm_compactor.specs.AllCalls.{Beginning, BearsCompaction, Chooses, GivesReason, IsNewestView, WasUsed}
use Rattle.pm_compactor.specs.Compactor.{asking_of, chosen_in}
use Rattle.pm_compactor.specs.declared.all_calls.Compacted.{Compacted}
use Rattle.pm_compactor.specs.declared.all_calls.Compacted.TheVariants as compacts
use Rattle.pm_command.specs.Outside.{ConsumersRest, Outside, actor, Prints, Rests, next_path, own_user}
use Rattle.pm_command.specs.declared.start.Start.{Start}

-- ---- its calls

-- what is asked, by the actor of the command
abbrev pub asked_of : Start → Bool → Asking
asked_of start full =
    asking_of full (own_user (actor start)) (naming start.session (actor start).number 0) start.now_millis

-- they go on from the schema, which is declared, and are those of a compaction with this answer
abbrev pub GoesOnAs : Start → Bool → Result Compacted Refusal → List Event → Type 0
GoesOnAs start full made own = (s : TableSchema) × IsDeclared s × compactor.DidCompact s (asked_of start full) made own

-- they end with the schema, since memory ran out
abbrev pub EndsAtSchema : Refusal → List Event → Type 0
EndsAtSchema e own = (s : TableSchema) × (e ≡ refusals.Memory) × reader.Did (readers.Ready s) own

-- Its calls of the store, by what became of the table; or they show why no schema was read, or end with the schema, or
-- later.
abbrev pub DidCompact : Start → Bool → Result Compacted Refusal → List Event → Type 0
DidCompact start full (Ok compacted) own = GoesOnAs start full (Ok compacted) own
DidCompact start full (Err e) own = reader.Shows e own ⊎ (EndsAtSchema e own ⊎ GoesOnAs start full (Err e) own)

-- ---- what it prints

abbrev pub text_of : Result Compacted Refusal → List ℕ
text_of (Ok compacts.Nothing) = line (codes "nothing to compact")
text_of (Ok (compacts.Committed id)) = line (codes "snapshot " ++ decimal id)
text_of (Err e) = []

-- the snapshot that was committed
abbrev pub snapshot_of : Result Compacted Refusal → Option ℕ
snapshot_of (Ok (compacts.Committed id)) = Some id
snapshot_of other = None

-- what `compact` answers
abbrev pub Compacts : Start → Bool → Outside → Outside → Option Refusal → Type 0
Compacts start full before after answer =
    (made : Result Compacted Refusal) × HasTrace (DidCompact start full made) before.store after.store
    × Prints (text_of made) (snapshot_of made) (result_err made) before.out after.out answer

-- ---- a history that stands at its first call, where nobody else acts from then on

-- what it begins with
abbrev pub beginning_of : Start → Bool → History → Files → Beginning
beginning_of start full h f = record { asking = asked_of start full; files = f; history = h }

-- the groups that are chosen in the newest snapshot of the files, each with whether all of its runs go
abbrev pub HasChoice : Start → Bool → History → List (Group × Bool) → Files → Type 0
HasChoice start full h groups f = (v : View) × IsNewestView (beginning_of start full h f) v
    × (named_groups (chosen_in (asked_of start full) v) ≡ groups)

-- the history with the compaction of these groups of its newest snapshot at its end
abbrev pub with_compaction : List (Group × Bool) → History → History
with_compaction groups h = with_entry (compaction (count_of h) groups) h

-- Some groups are chosen in the newest snapshot that was there at first, and this is so of the history with their
-- compaction at its end.
abbrev pub HasCompactionAs : (History → Files → Type 0) → Start → Bool → History → StoreView → Files → Type 0
HasCompactionAs Stands start full h first f = (groups : List (Group × Bool)) × (groups ≢ [])
    × LeavesFiles (HasChoice start full h groups) first × Stands (with_compaction groups h) f

-- files stand for it
abbrev pub HasCompaction : Start → Bool → History → StoreView → Files → Type 0
HasCompaction start full h first f = HasCompactionAs (λ h f. Folder f h) start full h first f

-- files stand for a history, or for it with the compaction at its end
abbrev pub StandsForEither : Start → Bool → History → StoreView → Files → Type 0
StandsForEither start full h first f = Folder f h ⊎ HasCompaction start full h first f

-- and an actor may start there, as no snapshot names a file of its name
abbrev pub MayStartAfter : Actor → Start → Bool → History → StoreView → Files → Type 0
MayStartAfter other start full h first f =
    MayStart other h f ⊎ HasCompactionAs (MayStart other) start full h first f

-- What a crash may leave: files that stand for a history, or for it with the compaction at its end; and for the latter
-- from the publish on, which put the next snapshot there.
pub record IsImage (start : Start) (full : Bool) (h : History) (first : StoreView) (f : Files) : Type 0 where
  pub either : StandsForEither start full h first f
  pub published : count_of h + 1 ≤ greatest → IsSome (map.get f (next_path h)) → HasCompaction start full h first f

-- the snapshot after the newest is to its last field the one of a compaction of the newest one's choice
abbrev pub IsCompactedTo : Start → Bool → History → Files → Files → Type 0
IsCompactedTo start full h f found = (v : View) × IsNewestView (beginning_of start full h found) v
    × BearsCompaction (beginning_of start full h found) v f

-- What became of the table, and what stands. No group of the newest snapshot has a choice, and nothing changed; or some
-- have, and the history has the compaction of just these at its end: the id is the next one, whose snapshot is to its
-- last field the one of that compaction.
abbrev pub Becomes : Start → Bool → History → StoreView → StoreView → Compacted → Type 0
Becomes start full h first after compacts.Nothing =
    LeavesFiles (HasChoice start full h []) first × Rests h first after
Becomes start full h first after (compacts.Committed id) = (id ≡ count_of h + 1)
    × LeavesFiles (λ f. LeavesFiles (IsCompactedTo start full h f) first) after
    × LeavesFiles (HasCompaction start full h first) after

-- the newest snapshot that was there at first gives this reason against the compaction of its choice
abbrev pub GivesAgainst : Start → Bool → History → Refusal → StoreView → Type 0
GivesAgainst start full h e first = LeavesFiles (λ f. Chooses (beginning_of start full h f)
    (λ v. GivesReason (beginning_of start full h f) v e)) first

-- What stands after a fault of the store at this path: the history, or where it is that of the publish the history with
-- the compaction.
abbrev pub StandsAfterFault : Start → Bool → History → StoreView → List ℕ → Files → Type 0
StandsAfterFault start full h first path f = Folder f h ⊎ ((path ≡ next_path h) × HasCompaction start full h first f)

-- What a refusal needs, and what stands after it: after a fault of the store, which was counted, the history, or where
-- it was the publish's the history with the compaction; else the history, and but where memory ran out or a file of the
-- actor's name was met nothing changed. There is no table; a file of the actor's name was there at first; or the newest
-- snapshot leaves the compaction no room. No other comes: nobody else took a file that goes, no fence is above the
-- newest snapshot, and no file is damaged.
abbrev pub Spoils : Start → Bool → History → StoreView → StoreView → Refusal → Type 0
Spoils start full h first after refusals.Memory = LeavesFiles (λ f. Folder f h) after
Spoils start full h first after (refusals.StoreFault path) =
    Rose first.faults after.faults × LeavesFiles (StandsAfterFault start full h first path) after
Spoils start full h first after refusals.NoTable = (h ≡ no_table) × Rests h first after
Spoils start full h first after (refusals.SessionUsed path) =
    LeavesFiles (λ f. WasUsed (beginning_of start full h f) path) first × LeavesFiles (λ f. Folder f h) after
Spoils start full h first after (refusals.Limit which number) =
    GivesAgainst start full h (refusals.Limit which number) first × Rests h first after
Spoils start full h first after other = ⊥

-- The answer to a history: what became of it was printed; or a prefix of that, where the sink failed, and the refusal
-- names the snapshot that was committed; or it was refused, and nothing printed.
abbrev pub AnswersHistory : Start → Bool → History → StoreView → Outside → Outside → Option Refusal → Type 0
AnswersHistory start full h first before after None = (done : Compacted) × Becomes start full h first after.store done
    × (after.out.taken ≡ and_then before.out.taken (text_of (Ok done)))
AnswersHistory start full h first before after (Some (refusals.SinkFault snapshot)) =
    (done : Compacted) × Becomes start full h first after.store done × (snapshot ≡ snapshot_of (Ok done))
    × SinkFailed before.out after.out × TookPrefix before.out.taken after.out.taken (text_of (Ok done))
AnswersHistory start full h first before after (Some e) =
    Spoils start full h first after.store e × (after.out ≡ before.out)

-- What `compact` does to a history; what each image of a crash is; and that every other actor that might have started
-- before may start after it.
pub record CompactsTable (start : Start) (full : Bool) (h : History) (first : StoreView) (before after : Outside)
    (answer : Option Refusal) : Type 0 where
  pub answers : AnswersHistory start full h first before after answer
  pub images : Extends (IsImage start full h first) first.ops after.store.ops
  pub free : (other : Actor) → other ≢ actor start → LeavesFiles (MayStart other h) first
      → Extends (MayStartAfter other start full h first) first.ops after.store.ops
  pub consumers : ConsumersRest h first after.store
  pub adds : AddsAlone (actor start) h first after.store

-- what it promises of histories, from its first call of the store on: where no snapshot names a file of an actor of its
-- name
abbrev pub CompactsTables : Start → Bool → Outside → Outside → Option Refusal → Type 0
CompactsTables start full before after answer =
    FromFirst (λ first _. (h : History) → LeavesFiles (MayStart (actor start) h) first
    → CompactsTable start full h first before after answer) before.store after.store

-- ---- before anything is printed

-- Private: what became of a history
abbrev pub MakesOf : Start → Bool → History → StoreView → StoreView → Result Compacted Refusal → Type 0
MakesOf start full h first after (Ok done) = Becomes start full h first after done
MakesOf start full h first after (Err e) = Spoils start full h first after e

-- Private: what the calls of `compact` do to a history
pub record Keeps (start : Start) (full : Bool) (h : History) (first after : StoreView) (made : Result Compacted Refusal)
    : Type 0 where
  pub makes : MakesOf start full h first after made
  pub images : Extends (StandsForEither start full h first) first.ops after.ops
  pub free : (other : Actor) → other ≢ actor start → LeavesFiles (MayStart other h) first
      → Extends (MayStartAfter other start full h first) first.ops after.ops
  pub consumers : ConsumersRest h first after
  pub adds : AddsAlone (actor start) h first after

-- Private: and to histories
abbrev pub KeepsHistories : Start → Bool → StoreView → StoreView → Result Compacted Refusal → Type 0
KeepsHistories start full before after made =
    FromFirst (λ first after. (h : History) → LeavesFiles (MayStart (actor start) h) first
    → Keeps start full h first after made) before after

-- Private: the calls of `compact`, what they do to histories, and what was printed
abbrev pub IsCompacted : Start → Bool → SinkView → SinkView → StoreView → StoreView → Option Refusal → Type 0
IsCompacted start full out out_after store store_after answer =
    (made : Result Compacted Refusal) × HasTrace (DidCompact start full made) store store_after
    × KeepsHistories start full store store_after made
    × Prints (text_of made) (snapshot_of made) (result_err made) out out_after answer
