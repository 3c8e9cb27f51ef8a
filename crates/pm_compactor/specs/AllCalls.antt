-- All calls of a compactor, from those that read the table's schema on: what they are, and what they do to a history
-- that stands at the first of them, where nobody else acts from then on.
use Rattle.std.specs.Prelude.{◌≡◌, ◌≢◌, ◌⊎◌, ◌↔◌, ℕ, ◌+◌, List, [], ◌++◌, codes, Some, IsSome, IfErr, Result, Ok, Err}
use Rattle.std.specs.BTreeMap.{IsOrdered}
use Rattle.std.specs.FinMap as paths
use Rattle.std.specs.List.{AllZip}
use Rattle.pm_base.specs.Faults.{Rose}
use Rattle.pm_values.specs.GroupOrder.{group_cmp}
use Rattle.pm_values.specs.declared.group.Group.{Group}
use Rattle.pm_values.specs.declared.refusal.Refusal.{Refusal}
use Rattle.pm_values.specs.declared.refusal.Refusal.TheVariants as refusals
use Rattle.pm_store.specs.Files.{Files, IsListing}
use Rattle.pm_store.specs.Images.{Extends}
use Rattle.pm_store.specs.Store.{StoreView, FromFirst}
use Rattle.pm_machine.specs.Trace.{Event}
use Rattle.pm_model_history.specs.History.{Entry, History, IsTableOf, compaction}
use Rattle.pm_schema.specs.declared.schema.TableSchema.{TableSchema}
use Rattle.pm_snapshot.specs.Names.{MayName}
use Rattle.pm_model_folder.specs.Changes.{Actor, IsNamedBy}
use Rattle.pm_model_folder.specs.Folder.{Folder, KeepsConsumers}
use Rattle.pm_model_folder.specs.Ledger.{count_of}
use Rattle.pm_model_folder.specs.Paths.{snapshot_path}
use Rattle.pm_read_schema.specs.AllCalls.{HasFiles}
use Rattle.pm_read_schema.specs.Trace as schema
use Rattle.pm_read_schema.specs.declared.phase.Phase.TheVariants as schemas
use Rattle.pm_scan_rows.specs.Group.{GroupRead}
use Rattle.pm_group_files.specs.Meaning.{IsReadAs}
use Rattle.pm_levels.specs.Runs.{RunView}
use Rattle.pm_model_folder.specs.Runs.{AreRunsAt}
use Rattle.pm_read_table.specs.View.{runs_at}
use Rattle.pm_read_table.specs.declared.view.View.{View}
use Rattle.pm_made.specs.Commit.{IsFoundAs}
use Rattle.pm_made.specs.Refusals.{refusal_of}
use Rattle.pm_made.specs.declared.intent.Intent.TheVariants as intents
use Rattle.pm_made.specs.declared.intent.Plan.{Plan}
use Rattle.pm_made.specs.declared.newest.Author.{Author}
use Rattle.pm_made.specs.declared.newest.Newest.{Newest}
use Rattle.pm_compaction.specs.Compacted.{HasCompacted}
use Rattle.pm_choice.specs.Choice.{named_groups, removed_entries}
use Rattle.pm_choice.specs.Question.{full_appends}
use Rattle.pm_plan.specs.Planned.{AllRewritten, HasTold, author_of}
use Rattle.pm_plan.specs.declared.planned.Asking.{Asking}
use Rattle.pm_plan.specs.declared.planned.Planned.{Planned}
use Rattle.pm_commit.specs.Alone.{with_entry}
use Rattle.pm_commit.specs.AllCalls.{LeavesFiles, MayStart, NamesNone}
use Rattle.pm_commit.specs.Committer.{newest_in, newest_of}
use Rattle.pm_commit.specs.Marks.{FindsUsed}
use Rattle.pm_commit.specs.Meaning.{AddsOwn, path_after}
use Rattle.pm_compactor.specs.Compactor.{actor_of, asked_of_view, chosen_in, wanted_groups, IsPlanIn}
use Rattle.pm_compactor.specs.Trace.{AskedOf, Did, Shows}
use Rattle.pm_compactor.specs.declared.all_calls.Compacted.{Compacted}
use Rattle.pm_compactor.specs.declared.all_calls.Compacted.TheVariants as compacts
use Rattle.pm_compactor.specs.declared.phase.Phase.TheVariants as phases
use Rattle.pm_commit.specs.declared.phase.Phase.TheVariants as commits

-- ---- the calls

-- the schema was read
abbrev pub Has : TableSchema → List Event → Type 0
Has s own = schema.Did (schemas.Ready s) own

-- what is asked of a compactor of a table
abbrev pub asked_by : TableSchema → Asking → AskedOf
asked_by s asking = record { asking = asking; view = newest_of s }

-- The calls of a compaction by its answer: they committed the snapshot, or found nothing to compact, or show the
-- refusal.
abbrev pub Ends : TableSchema → Asking → Result Compacted Refusal → List Event → Type 0
Ends s asking (Ok (compacts.Committed id)) own =
    (author : Author) × Did (asked_by s asking) (phases.Commit (commits.Committed author id)) own
Ends s asking (Ok compacts.Nothing) own = Did (asked_by s asking) phases.Nothing own
Ends s asking (Err refusal) own = Shows (asked_by s asking) refusal own

-- they go on from those that read the schema
abbrev pub DidCompact : TableSchema → Asking → Result Compacted Refusal → List Event → Type 0
DidCompact s asking result own =
    (earlier later : List Event) × Has s earlier × (own ≡ earlier ++ later) × Ends s asking result later

-- ---- what a history is at first

-- what a compaction that is alone begins with: what is asked, and the files with the history that they stand for
pub record Beginning : Type 0 where
  pub asking : Asking
  pub files : Files
  pub history : History

-- the names of its actor may stand in paths, and no snapshot that is there names a file of it
pub record MayBegin (b : Beginning) : Type 0 where
  pub may : MayName b.asking.names
  pub start : MayStart (actor_of b.asking.names) b.history b.files

abbrev pub newest_id : Beginning → ℕ
newest_id b = count_of b.history

-- no path has another content than at the beginning
abbrev pub IsUnchanged : Beginning → Files → Type 0
IsUnchanged b f = (path : List ℕ) → paths.get f path ≡ paths.get b.files path

-- the newest snapshot of a table as it was found at the beginning
pub record IsFoundNewest (b : Beginning) (s : TableSchema) (newest : Newest) : Type 0 where
  pub id : newest.id ≡ newest_id b
  pub found : IsFoundAs b.files s newest newest.snapshot

-- each group of the view has the runs of its live files
abbrev pub HaveRunsOf : Files → View → Type 0
HaveRunsOf f v = (g : Group) (runs : List RunView)
    → (runs_at v g ≡ Some runs) ↔ ((runs ≢ []) × AreRunsAt f v.schema v.id g runs)

-- a view of the newest snapshot as it was at the beginning
pub record IsNewestView (b : Beginning) (v : View) : Type 0 where
  pub table : IsTableOf v.schema b.history
  pub newest : IsFoundNewest b v.schema (newest_in v)
  pub ordered : IsOrdered group_cmp v.groups
  pub runs : HaveRunsOf b.files v

-- groups of that view have a choice, and of it this holds
abbrev pub Chooses : Beginning → (View → Type 0) → Type 0
Chooses b P = (v : View) × IsNewestView b v × (chosen_in b.asking v ≢ []) × P v

-- the entry of what a view chooses: the compaction of the groups with a choice, with the view as its base
abbrev pub entry_of : Asking → View → Entry
entry_of asking v = compaction v.id (named_groups (chosen_in asking v))

-- who commits it
abbrev pub author_in : Asking → View → Author
author_in asking v = author_of asking v.id

-- What was made of the groups that a view chose: of each the runs that go, with the rows that their files had at the
-- beginning, became the files of one run, and what is told of it, by these and by the files of other runs in which old
-- values are looked up, was written.
pub record IsMadeIn (b : Beginning) (v : View) (made : Planned) : Type 0 where
  pub planned : Planned
  pub is_plan : IsPlanIn b.asking v planned
  pub groups : List GroupRead
  pub read : AllZip (IsReadAs b.files v.schema) (wanted_groups v.schema (chosen_in b.asking v)) groups
  pub rewritten_plan : Planned
  pub rewritten : AllRewritten planned groups rewritten_plan
  pub told : HasTold rewritten_plan made

-- The plan of what a view chose: it names the groups with a choice, takes the files of their runs that go away, adds
-- those that were made of these, has the changelog files of what is told of them, and bears the appends of the view
-- where all was asked for.
pub record IsOfChoice (b : Beginning) (v : View) (plan : Plan) : Type 0 where
  pub groups : plan.groups.items ≡ named_groups (chosen_in b.asking v)
  pub removed : plan.removed.items ≡ removed_entries v.schema (chosen_in b.asking v)
  pub made : Planned
  pub is_made : IsMadeIn b v made
  pub added : plan.added ≡ made.added
  pub full : plan.full ≡ full_appends (asked_of_view b.asking v) v.snapshot
  pub changes : plan.changes ≡ made.changes

-- ---- what it does then

-- The snapshot after the newest is there, and to its last field the one of a compaction by what the view chose, which
-- was found as it was.
abbrev pub BearsCompaction : Beginning → View → Files → Type 0
BearsCompaction b v f = (plan : Plan) × IsOfChoice b v plan × (newest : Newest) × IsFoundNewest b v.schema newest
    × HasCompacted f v.schema newest (author_in b.asking v) plan

-- the view is a reason against the plan of what it chose: it leaves no room for the files that come
abbrev pub GivesReason : Beginning → View → Refusal → Type 0
GivesReason b v refusal = (plan : Plan) × IsOfChoice b v plan × (newest : Newest) × IsFoundNewest b v.schema newest
    × (refusal_of newest (author_in b.asking v) (intents.Compact plan) ≡ Some refusal)

-- a file was there at the beginning: a listed one that has the actor's mark, or one that the actor named
abbrev pub WasUsed : Beginning → List ℕ → Type 0
WasUsed b path =
    ((names : List (List ℕ)) × IsListing (codes "manifest") names b.files × FindsUsed b.asking.names names (Some path))
    ⊎ (IsNamedBy (actor_of b.asking.names) path × IsSome (paths.get b.files path))

-- The files stand for a history; whoever but the actor had made none of the files that snapshots name at the beginning
-- has made none of those that they name now. No file changed but that the actor's own appeared, and the next snapshot;
-- and those consumers are settled that were.
pub record StandsFreely (b : Beginning) (h : History) (f : Files) : Type 0 where
  pub folder : Folder f h
  pub adds : AddsOwn (actor_of b.asking.names) (path_after b.history) b.files f
  pub consumers : KeepsConsumers b.history b.files f
  pub free : (other : Actor) → other ≢ actor_of b.asking.names → NamesNone other b.history b.files → NamesNone other h f

-- they stand for the history with the entry of what the newest view chooses
abbrev pub HasEntry : Beginning → Files → Type 0
HasEntry b f = Chooses b (λ v. StandsFreely b (with_entry (entry_of b.asking v) b.history) f)

-- What an answer leaves of the files, and what it says of the beginning. `nothing` comes exactly where no group of the
-- newest view has a choice, and a commit where some has: it adds the entry of that choice. No path has another content
-- after `nothing`, and after a refusal by the view; else the files stand for the history, but that after a fault of the
-- store in the publish of the next snapshot the entry is there or not. No other refusal comes: nobody took a file that
-- goes, and no fence is above the newest snapshot.
abbrev pub LeavesFolder : Beginning → Result Compacted Refusal → Files → Type 0
LeavesFolder b (Ok (compacts.Committed id)) f = (id ≡ newest_id b + 1)
    × Chooses b (λ v. StandsFreely b (with_entry (entry_of b.asking v) b.history) f × BearsCompaction b v f)
LeavesFolder b (Ok compacts.Nothing) f = ((v : View) × IsNewestView b v × (chosen_in b.asking v ≡ []))
    × Folder f b.history × IsUnchanged b f
LeavesFolder b (Err (refusals.StoreFault path)) f =
    Folder f b.history ⊎ ((path ≡ snapshot_path (newest_id b + 1)) × HasEntry b f)
LeavesFolder b (Err (refusals.SessionUsed path)) f = Folder f b.history × WasUsed b path
LeavesFolder b (Err (refusals.Limit which number)) f = Folder f b.history × IsUnchanged b f
    × Chooses b (λ v. GivesReason b v (refusals.Limit which number))
LeavesFolder b (Err refusals.Memory) f = Folder f b.history
LeavesFolder b (Err other) f = ⊥

-- files stand for the history, or for it with the entry
abbrev pub StandsForEither : Beginning → Files → Type 0
StandsForEither b f = StandsFreely b b.history f ⊎ HasEntry b f

-- a fault of the store that is answered was counted
abbrev pub IsCounted : StoreView → StoreView → Refusal → Type 0
IsCounted first after (refusals.StoreFault path) = Rose first.faults after.faults
IsCounted first after other = Unit {0}

-- What a compaction does to the files that are there at its first call, where nobody else acts from then on.
pub record CompactsTable (b : Beginning) (s : TableSchema) (first after : StoreView) (result : Result Compacted Refusal)
    : Type 0 where
  pub schema : IsTableOf s b.history
  pub leaves : LeavesFiles (LeavesFolder b result) after
  pub images : Extends (StandsForEither b) first.ops after.ops
  pub counted : IfErr result (IsCounted first after)

-- what it promises of histories, from the first call that reads the schema on
abbrev pub CompactsTables : TableSchema → Asking → StoreView → StoreView → Result Compacted Refusal → Type 0
CompactsTables s asking before after result =
    FromFirst (λ first after. (b : Beginning) → b.asking ≡ asking → HasFiles b.files first → MayBegin b
    → CompactsTable b s first after result) before after
