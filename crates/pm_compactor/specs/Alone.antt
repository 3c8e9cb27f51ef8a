-- What a compactor does to a history where nobody else acts.
use Rattle.std.specs.Prelude.{◌≡◌, ◌≢◌, ◌⊎◌, ℕ, ◌+◌, ◌<◌, ◌≤◌, List, [], ◌∷◌, ◌++◌, Result, Ok, Err}
use Rattle.std.specs.FinMap as paths
use Rattle.std.specs.List.{AllByRecursion}
use Rattle.pm_values.specs.declared.refusal.Refusal.{Refusal}
use Rattle.pm_values.specs.declared.refusal.Refusal.TheVariants as refusals
use Rattle.pm_store.specs.Files.{Files}
use Rattle.pm_store.specs.Store.{StoreView, IsAlone}
use Rattle.pm_store.specs.Images.{Extends}
use Rattle.pm_machine.specs.Moves.{Moves}
use Rattle.pm_model_history.specs.History.{History}
use Rattle.pm_model_folder.specs.Changes.{Actor}
use Rattle.pm_model_folder.specs.Ledger.{Advances, HasConsumersOf, HasNamedNone, IsKnown, Past, Stands}
use Rattle.pm_model_folder.specs.Paths.{snapshot_path}
use Rattle.pm_scan_rows.specs.Group.{GroupRead}
use Rattle.pm_put.specs.declared.putting.CommitFile.{CommitFile}
use Rattle.pm_read_table.specs.declared.view.View.{View}
use Rattle.pm_group_files.specs.Chosen.{chosen_of}
use Rattle.pm_group_files.specs.Meaning as files
use Rattle.pm_group_files.specs.declared.phase.Phase as files_phase
use Rattle.pm_group_files.specs.declared.phase.Phase.TheVariants as readers
use Rattle.pm_made.specs.declared.intent.Intent.TheVariants as intents
use Rattle.pm_made.specs.declared.intent.Plan.{Plan}
use Rattle.pm_plan.specs.Planned.{AllRewritten}
use Rattle.pm_plan.specs.declared.planned.Planned.{Planned}
use Rattle.pm_commit.specs.Alone as commit
use Rattle.pm_commit.specs.Alone.{IsTryAt, ReadsNewest, left_of, with_entry}
use Rattle.pm_commit.specs.AllCalls.{LeavesFiles, NamesNone}
use Rattle.pm_commit.specs.Committer.{calls_left}
use Rattle.pm_commit.specs.Meaning.{AddsOwn, KnowsBut, path_after}
use Rattle.pm_commit.specs.Own as owns
use Rattle.pm_commit.specs.Own.{OwnView}
use Rattle.pm_commit.specs.declared.phase.Phase as commit_phase
use Rattle.pm_commit.specs.declared.phase.Phase.TheVariants as commits
use Rattle.pm_compactor.specs.AllCalls.{Beginning, BearsCompaction, Chooses, GivesReason}
use Rattle.pm_compactor.specs.AllCalls.{IsNewestView, IsOfChoice, IsUnchanged, LeavesFolder}
use Rattle.pm_compactor.specs.AllCalls.{StandsForEither, WasUsed, author_in, entry_of, newest_id}
use Rattle.pm_compactor.specs.Compactor.{actor_of, chosen_in, wanted_in, IsPlanIn}
use Rattle.pm_compactor.specs.Meaning.{Knows}
use Rattle.pm_compactor.specs.declared.all_calls.Compacted.{Compacted}
use Rattle.pm_compactor.specs.declared.phase.Phase.{Phase}
use Rattle.pm_compactor.specs.declared.phase.Phase.TheVariants as phases

-- ---- what it changes

-- of the snapshots of the history that are known, each stood as the files have it at the beginning
abbrev pub StoodSo : Beginning → Past → Type 0
StoodSo b p = (id : ℕ) → IsKnown p id → id ≤ newest_id b → p.stood id ≡ b.files

-- each such snapshot stood so, and others than its actor who had named none of their files have named none
pub record IsPastOf (b : Beginning) (p : Past) : Type 0 where
  pub stood : StoodSo b p
  pub others : (other : Actor) → other ≢ actor_of b.asking.names → NamesNone other b.history b.files
      → HasNamedNone other p

-- the history is as it was, or has the entry of what the newest view chooses
abbrev pub IsEither : Beginning → History → Type 0
IsEither b h = (h ≡ b.history) ⊎ Chooses b (λ v. h ≡ with_entry (entry_of b.asking v) b.history)

-- One of its actor's kinds of change of the history as it was, and of these only that the entry is added. Files of its
-- actor appear, and the next snapshot; none goes or becomes another, and of consumers is known what was.
pub record MakesAlone (b : Beginning) (f : Files) (p : Past) (after : Files) (later : Past) : Type 0 where
  pub same : p.history ≡ b.history
  pub advances : Advances (actor_of b.asking.names) f p after later
  pub either : IsEither b later.history
  pub adds : AddsOwn (actor_of b.asking.names) (path_after b.history) f after
  pub consumers : (name : List ℕ) → later.claims name ≡ p.claims name

-- ---- what it knows

-- nothing has changed
pub record IsStill (b : Beginning) (f : Files) (p : Past) : Type 0 where
  pub unchanged : IsUnchanged b f
  pub same : p.history ≡ b.history

-- no file was found absent
abbrev pub LacksNone : files_phase.Phase → Type 0
LacksNone (readers.Again id path) = ⊥
LacksNone other = Unit {0}

-- Of what a view chose so much was made: the groups that were read whole and handed out, and of the others the files
-- that were read.
pub record HasMadeOf (b : Beginning) (v : View) (x : Planned) (m : files_phase.Phase) (f : Files) (p : Past)
    : Type 0 where
  pub planned : Planned
  pub is_plan : IsPlanIn b.asking v planned
  pub groups : List GroupRead
  pub rewritten : AllRewritten planned groups x
  pub reading : files.Knows (chosen_of planned.schema planned.newest.id (wanted_in planned) groups) m f p
  pub present : LacksNone m

-- the commit is that of a plan of what a view chose, with its first try to come
pub record IsCommitOf (b : Beginning) (v : View) (own : OwnView) : Type 0 where
  pub plan : Plan
  pub of_choice : IsOfChoice b v plan
  pub intent : own.intent ≡ intents.Compact plan
  pub author : own.author ≡ author_in b.asking v
  pub maker : owns.actor_of own ≡ actor_of b.asking.names
  pub based : own.names.base ≡ newest_id b
  pub unlost : own.lost ≡ []

-- what its committer begins with
abbrev pub begun_in : Beginning → View → OwnView → commit.Beginning
begun_in b v own = record { own = own; entry = entry_of b.asking v; files = b.files; history = b.history }

-- no two of the files have one path
abbrev pub AreApart : List CommitFile → Type 0
AreApart [] = Unit {0}
AreApart (file ∷ files) = AllByRecursion (λ (other : CommitFile). other.path ≢ file.path) files × AreApart files

abbrev pub AreUntouched : Beginning → List CommitFile → Files → Type 0
AreUntouched b files f =
    AllByRecursion (λ (file : CommitFile). paths.get f file.path ≡ paths.get b.files file.path) files

-- The committer is in its first try, and these files are to be created before its own. None of them all was created
-- since the beginning.
abbrev pub IsPutAt : Beginning → View → OwnView → List CommitFile → commit_phase.Phase → Files → Type 0
IsPutAt b v own before (commits.Put o s id m) f = IsTryAt (begun_in b v own) o id
    × AreApart (before ++ left_of m) × AreUntouched b (before ++ left_of m) f
IsPutAt b v own before other f = ⊥

-- files that were made are created: those before this one are there
pub record CreatesAlone (b : Beginning) (v : View) (m : commit_phase.Phase) (next : CommitFile) (rest : List CommitFile)
    (f : Files) (p : Past) : Type 0 where
  pub own : OwnView
  pub of : IsCommitOf b v own
  pub given : List CommitFile
  pub done : List CommitFile
  pub parts : given ≡ done ++ next ∷ rest
  pub knows : KnowsBut (entry_of b.asking v) given done m f p
  pub left : 0 < calls_left m
  pub at : IsPutAt b v own (next ∷ rest) m f

-- once all were the committer is alone, until its snapshot is there
abbrev pub CommitsAlone : Beginning → View → OwnView → commit_phase.Phase → Files → Past → Type 0
CommitsAlone b v own (commits.Put o s id m) f p = commit.KnewAlone (begun_in b v own) (commits.Put o s id m) f p
CommitsAlone b v own (commits.Committed author id) f p =
    (p.history ≡ with_entry (entry_of b.asking v) b.history) × (id ≡ newest_id b + 1) × BearsCompaction b v f
CommitsAlone b v own other f p = ⊥

-- What is true in each phase, where nobody else acted since the beginning.
abbrev pub KnewIn : Beginning → Phase → Files → Past → Type 0
KnewIn b (phases.View asking m) f p =
    Knows (phases.View asking m) f p × IsStill b f p × (asking ≡ b.asking) × ReadsNewest (newest_id b) m
KnewIn b (phases.Names x) f p =
    Knows (phases.Names x) f p × IsStill b f p × Chooses b (λ v. IsPlanIn b.asking v x)
KnewIn b (phases.Files x m) f p =
    Knows (phases.Files x m) f p × IsStill b f p × Chooses b (λ v. HasMadeOf b v x m f p)
KnewIn b (phases.Create m next rest) f p =
    (p.history ≡ b.history) × Chooses b (λ v. CreatesAlone b v m next rest.items f p)
KnewIn b (phases.Commit m) f p = Chooses b (λ v. (own : OwnView) × IsCommitOf b v own × CommitsAlone b v own m f p)
KnewIn b phases.Nothing f p = IsStill b f p × ((v : View) × IsNewestView b v × (chosen_in b.asking v ≡ []))
KnewIn b phases.Over f p = Unit {0}

abbrev pub KnewAlone : Beginning → Phase → Files → Past → Type 0
KnewAlone b m f p = IsPastOf b p × KnewIn b m f p

-- ---- its refusals

-- Which refusals come, and what they leave: the history, but that where the store failed in the publish it may have the
-- entry more. No try is lost, no snapshot has gone, no file is damaged, and none was taken.
abbrev pub AloneRefused : Beginning → Refusal → Files → Past → Type 0
AloneRefused b refusals.Memory f p = p.history ≡ b.history
AloneRefused b (refusals.StoreFault path) f p = (p.history ≡ b.history)
    ⊎ ((path ≡ snapshot_path (newest_id b + 1))
    × Chooses b (λ v. p.history ≡ with_entry (entry_of b.asking v) b.history))
AloneRefused b (refusals.SessionUsed path) f p = (p.history ≡ b.history) × WasUsed b path
AloneRefused b (refusals.Limit which number) f p =
    IsStill b f p × Chooses b (λ v. GivesReason b v (refusals.Limit which number))
AloneRefused b other f p = ⊥

-- ---- a step

abbrev pub KnowsAlone : {X : Type 0} → Beginning → Phase → Result X Refusal → Files → Past → Type 0
KnowsAlone b m (Ok x) f p = KnewAlone b m f p
KnowsAlone b m (Err refusal) f p = IsPastOf b p × AloneRefused b refusal f p

-- Whatever it began with: a step keeps what is known, where nobody else acted before it.
abbrev pub CompactorAlone : {X : Type 0} → Phase → Phase → StoreView → StoreView → Result X Refusal → Type 0
CompactorAlone old new before after result = (b : Beginning)
    → Moves Stands (MakesAlone b) (KnewAlone b old) (KnowsAlone b new result) before after

-- ---- between two calls

-- Private: files appeared since the beginning, and the consumers are those that were
pub record HasSpared (b : Beginning) (f : Files) (p : Past) : Type 0 where
  pub adds : AddsOwn (actor_of b.asking.names) (path_after b.history) b.files f
  pub consumers : HasConsumersOf b.history b.files f p

-- Private: files stand for what is known in a phase of a compactor; and after a step
abbrev pub KnewFiles : Beginning → Phase → Files → Type 0
KnewFiles b m f = (p : Past) × Stands f p × HasSpared b f p × KnewAlone b m f p

abbrev pub KnowsFiles : {X : Type 0} → Beginning → Phase → Result X Refusal → Files → Type 0
KnowsFiles b m result f = (p : Past) × Stands f p × HasSpared b f p × KnowsAlone b m result f p

-- Private: what all calls that are left leave of what is known in a phase
abbrev pub CompactsAlone : Beginning → Phase → StoreView → StoreView → Result Compacted Refusal → Type 0
CompactsAlone b m before after result = IsAlone before after → LeavesFiles (KnewFiles b m) before
    → LeavesFiles (StandsForEither b) before
    → LeavesFiles (LeavesFolder b result) after × Extends (StandsForEither b) before.ops after.ops
