-- All calls of a committer, from those that read the table's schema on: what they are, and what they do to a history
-- that stands at the first of them, where nobody else acts from then on.
use Rattle.std.specs.Prelude.{◌≡◌, ◌≢◌, ◌⊎◌, ℕ, ◌+◌, ◌≤◌, List, ◌++◌, true, None, Some, IsSomeAnd, IfErr}
use Rattle.std.specs.Prelude.{Result, Ok, Err}
use Rattle.pm_base.specs.Faults.{Rose}
use Rattle.pm_values.specs.declared.refusal.Refusal.{Refusal}
use Rattle.pm_values.specs.declared.refusal.Refusal.TheVariants as refusals
use Rattle.pm_store.specs.Files.{Files, files_after}
use Rattle.pm_store.specs.Images.{Extends}
use Rattle.pm_store.specs.Store.{StoreView, FromFirst, IsAlone}
use Rattle.pm_machine.specs.Trace.{Event}
use Rattle.pm_model_history.specs.History.{History, IsTableOf}
use Rattle.pm_schema.specs.declared.schema.TableSchema.{TableSchema}
use Rattle.pm_snapshot.specs.Names.{MayName}
use Rattle.pm_snapshot.specs.declared.snapshot.Snapshot.{Snapshot}
use Rattle.pm_model_folder.specs.Changes.{Actor, IsNamedBy}
use Rattle.pm_model_folder.specs.Commits.{Names}
use Rattle.pm_model_folder.specs.Folder.{Folder, KeepsConsumers}
use Rattle.pm_model_folder.specs.Ledger.{HasConsumersOf, HasNamedNone, IsKnown, Past, Stands, count_of}
use Rattle.pm_model_folder.specs.Meaning.{SnapshotAt}
use Rattle.pm_model_folder.specs.Paths.{snapshot_path}
use Rattle.pm_read_schema.specs.AllCalls.{HasFiles}
use Rattle.pm_read_schema.specs.Trace as schema
use Rattle.pm_read_schema.specs.declared.phase.Phase.TheVariants as readers
use Rattle.pm_made.specs.Intent.{Means}
use Rattle.pm_made.specs.declared.newest.Author.{Author}
use Rattle.pm_commit.specs.Alone.{Beginning, GivesReason, IsUnchanged, KnewAlone, KnowsAlone, SeesNewest, WasUsed}
use Rattle.pm_commit.specs.Alone.{begun_at, newest_id, with_entry}
use Rattle.pm_commit.specs.Meaning.{AddsOwn, BearsAdded, path_after}
use Rattle.pm_commit.specs.Own.{IsNoAppend, OwnView, actor_of}
use Rattle.pm_commit.specs.Search.{seen_of}
use Rattle.pm_commit.specs.Trace.{Did, Shows}
use Rattle.pm_commit.specs.declared.all_calls.Appended.{Appended}
use Rattle.pm_commit.specs.declared.all_calls.Appended.TheVariants as appends
use Rattle.pm_commit.specs.declared.found.Found.{Found}
use Rattle.pm_commit.specs.declared.phase.Phase.{Phase}
use Rattle.pm_commit.specs.declared.phase.Phase.TheVariants as phases
use Rattle.pm_commit.specs.declared.search.Seen.TheVariants as seen

-- ---- the calls

-- the schema was read
abbrev pub Has : TableSchema → List Event → Type 0
Has s own = schema.Did (readers.Ready s) own

-- The calls of a commit that began so, by its answer: they committed the snapshot, or found an earlier commit, or show
-- the refusal.
abbrev pub Ends : TableSchema → OwnView → Result Appended Refusal → List Event → Type 0
Ends s first (Ok (appends.Committed id)) own = (author : Author) × Did s first (phases.Committed author id) own
Ends s first (Ok appends.Already) own = (author : Author) × Did s first (phases.Already author) own
Ends s first (Err refusal) own = Shows s first refusal own

-- They go on from those that read the schema.
abbrev pub DidAppend : TableSchema → OwnView → Result Appended Refusal → List Event → Type 0
DidAppend s first result own =
    (earlier later : List Event) × Has s earlier × (own ≡ earlier ++ later) × Ends s first result later

-- ---- what a history is at first

-- no snapshot that is there names a file that the actor named
abbrev pub NamesNone : Actor → History → Files → Type 0
NamesNone me h f =
    (s : TableSchema) (id : ℕ) (path : List ℕ) → IsTableOf s h → 1 ≤ id → id ≤ count_of h → Names f s id path
    → IsNamedBy me path → ⊥

-- files of which a commit may begin: they stand for the history, and no snapshot names a file of its actor
abbrev pub MayStart : Actor → History → Files → Type 0
MayStart me h f = Folder f h × NamesNone me h f

-- What a commit begins with: no try was made, the names of its actor may stand in paths, the entry is the one that it
-- adds, and the files stand for the history.
pub record MayBegin (s : TableSchema) (b : Beginning) : Type 0 where
  pub no_base : b.own.author.base ≡ 0
  pub may : MayName b.own.names
  pub means : Means s b.own.author b.own.intent b.entry
  pub start : MayStart (actor_of b.own) b.history b.files

-- ---- what it is at the end

-- The files stand for a history; whoever but the actor of the commit had made none of the files that snapshots name at
-- the beginning has made none of those that they name now. No file changed but that the actor's own appeared, and the
-- next snapshot; and those consumers are settled that were.
pub record StandsFreely (b : Beginning) (h : History) (f : Files) : Type 0 where
  pub folder : Folder f h
  pub adds : AddsOwn (actor_of b.own) (path_after b.history) b.files f
  pub consumers : KeepsConsumers b.history b.files f
  pub free : (other : Actor) → other ≢ actor_of b.own → NamesNone other b.history b.files → NamesNone other h f

-- files stand for the history, or for it with the entry
abbrev pub StandsForEither : Beginning → Files → Type 0
StandsForEither b f = StandsFreely b b.history f ⊎ StandsFreely b (with_entry b.entry b.history) f

-- the snapshot after the newest is there, and to its last field but the names of its lists it is the one that adds the
-- entry to what the newest one was at the beginning
abbrev pub BearsCommit : Beginning → Files → Type 0
BearsCommit b f = (found : Found) × SeesNewest b found
    × BearsAdded f found.schema found.newest (begun_at b).author b.entry

-- What an answer leaves of the files: they stand for the history with the entry, once that is committed, and have its
-- snapshot; and they stand for the history else, but that after a fault of the store in the publish of the next
-- snapshot the entry is there or not. Where it was committed before, or there is a reason against it, no path has
-- another content.
abbrev pub LeavesFolder : Beginning → Result Appended Refusal → Files → Type 0
LeavesFolder b (Ok (appends.Committed id)) f = Folder f (with_entry b.entry b.history) × BearsCommit b f
LeavesFolder b (Ok appends.Already) f = Folder f b.history × IsUnchanged b f
LeavesFolder b (Err (refusals.StoreFault path)) f = Folder f b.history
    ⊎ (Folder f (with_entry b.entry b.history) × (path ≡ snapshot_path (newest_id b + 1)))
LeavesFolder b (Err (refusals.Fenced base fence)) f = Folder f b.history × IsUnchanged b f
LeavesFolder b (Err (refusals.CompactTaken file)) f = Folder f b.history × IsUnchanged b f
LeavesFolder b (Err (refusals.Limit which number)) f = Folder f b.history × IsUnchanged b f
LeavesFolder b (Err other) f = Folder f b.history

-- a snapshot of the files bears the author's user, and an identifier that isn't smaller
pub record HasBorne (author : Author) (f : Files) (h : History) : Type 0 where
  pub id : ℕ
  pub after_origin : 1 ≤ id
  pub within : id ≤ count_of h
  pub snapshot : Snapshot
  pub there : SnapshotAt f id snapshot
  pub reached : seen_of author snapshot ≡ seen.Reached

-- What an answer says of the beginning: the id is the next one, and there is no reason against the commit; an earlier
-- commit was to be looked for, and the author committed before; a file of the actor's name was there; or this is the
-- first reason against it, which for an append is never that a file was taken. A fault of the store says nothing of it,
-- and nor does it that memory ran out. No other refusal comes.
abbrev pub SaysOf : Beginning → Result Appended Refusal → Type 0
SaysOf b (Ok (appends.Committed id)) = (id ≡ newest_id b + 1) × GivesReason b None
SaysOf b (Ok appends.Already) = (b.own.check ≡ true) × HasBorne b.own.author b.files b.history
SaysOf b (Err refusals.Memory) = Unit {0}
SaysOf b (Err (refusals.StoreFault path)) = Unit {0}
SaysOf b (Err (refusals.SessionUsed path)) = WasUsed b path
SaysOf b (Err (refusals.Fenced base fence)) = GivesReason b (Some (refusals.Fenced base fence))
SaysOf b (Err (refusals.CompactTaken file)) =
    IsNoAppend b.own.intent × GivesReason b (Some (refusals.CompactTaken file))
SaysOf b (Err (refusals.Limit which number)) = GivesReason b (Some (refusals.Limit which number))
SaysOf b (Err other) = ⊥

-- a fault of the store that is answered was counted
abbrev pub IsCounted : StoreView → StoreView → Refusal → Type 0
IsCounted first after (refusals.StoreFault path) = Rose first.faults after.faults
IsCounted first after other = Unit {0}

-- the store's operations are known, and leave files with P
abbrev pub LeavesFiles : (Files → Type 0) → StoreView → Type 0
LeavesFiles P store = IsSomeAnd store.ops (λ ops. P (files_after ops))

-- What a commit does to the files that are there at its first call, where nobody else acts from then on.
pub record AppendsTable (b : Beginning) (s : TableSchema) (first after : StoreView) (result : Result Appended Refusal)
    : Type 0 where
  pub schema : IsTableOf s b.history
  pub leaves : LeavesFiles (LeavesFolder b result) after
  pub images : Extends (StandsForEither b) first.ops after.ops
  pub says : SaysOf b result
  pub counted : IfErr result (IsCounted first after)

-- what it promises of histories, from the first call that reads the schema on
abbrev pub AppendsTables : TableSchema → OwnView → StoreView → StoreView → Result Appended Refusal → Type 0
AppendsTables s own before after result =
    FromFirst (λ first after. (b : Beginning) → b.own ≡ own → HasFiles b.files first → MayBegin s b
    → AppendsTable b s first after result) before after

-- in each image of a crash no file has changed but that the actor's own appeared, and the next snapshot
abbrev pub AddsAlone : Actor → History → StoreView → StoreView → Type 0
AddsAlone me h first after = LeavesFiles (λ f. Extends (AddsOwn me (path_after h) f) first.ops after.ops) first

-- ---- between two calls

-- Private: of the snapshots of the history that are known, each stood as the files have it at the beginning
abbrev pub StoodSo : Beginning → Past → Type 0
StoodSo b p = (id : ℕ) → IsKnown p id → id ≤ newest_id b → p.stood id ≡ b.files

-- Private: each such snapshot stood so, others than its actor who had named none of their files have named none, and
-- files appeared since the beginning, and the consumers are those that were
pub record IsPastOf (b : Beginning) (f : Files) (p : Past) : Type 0 where
  pub stood : StoodSo b p
  pub adds : AddsOwn (actor_of b.own) (path_after b.history) b.files f
  pub consumers : HasConsumersOf b.history b.files f p
  pub others : (other : Actor) → other ≢ actor_of b.own → NamesNone other b.history b.files → HasNamedNone other p

-- Private: files stand for what is known in a phase of a committer; and after a step
abbrev pub KnewFiles : Beginning → Phase → Files → Type 0
KnewFiles b m f = (p : Past) × Stands f p × IsPastOf b f p × KnewAlone b m f p

abbrev pub KnowsFiles : {X : Type 0} → Beginning → Phase → Result X Refusal → Files → Type 0
KnowsFiles b m result f = (p : Past) × Stands f p × IsPastOf b f p × KnowsAlone b m result f p

-- Private: what all calls that are left leave of what is known in a phase
abbrev pub AppendsAlone : Beginning → Phase → StoreView → StoreView → Result Appended Refusal → Type 0
AppendsAlone b m before after result = IsAlone before after → LeavesFiles (KnewFiles b m) before
    → LeavesFiles (λ f. LeavesFolder b result f × SaysOf b result) after
    × Extends (StandsForEither b) before.ops after.ops
