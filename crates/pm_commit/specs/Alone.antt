-- What a committer does to a history where nobody else acts.
use Rattle.std.specs.Prelude.{◌≡◌, ◌⊎◌, ℕ, ◌+◌, List, [], ◌∷◌, ◌++◌, codes, true, Option, None, Some, IsSome, Result}
use Rattle.std.specs.Prelude.{Ok, Err}
use Rattle.std.specs.FinMap as map
use Rattle.std.specs.List.{AllByRecursion}
use Rattle.pm_values.specs.declared.refusal.Refusal.{Refusal}
use Rattle.pm_values.specs.declared.refusal.Refusal.TheVariants as refusals
use Rattle.pm_store.specs.Files.{Files, IsListing}
use Rattle.pm_store.specs.Store.{StoreView}
use Rattle.pm_machine.specs.Moves.{Moves}
use Rattle.pm_put.specs.declared.phase.Phase as put_phase
use Rattle.pm_put.specs.declared.phase.Phase.TheVariants as puts
use Rattle.pm_model_history.specs.History.{Entry, History, IsTableOf, no_table, table}
use Rattle.pm_model_folder.specs.Changes.{IsNamedBy}
use Rattle.pm_model_folder.specs.Ledger.{Past, Stands, count_of}
use Rattle.pm_model_folder.specs.Paths.{snapshot_path}
use Rattle.pm_read_table.specs.declared.phase.Phase as view_phase
use Rattle.pm_read_table.specs.declared.phase.Phase.TheVariants as readers
use Rattle.pm_made.specs.Commit.{IsFoundAs}
use Rattle.pm_made.specs.Refusals.{refusal_of}
use Rattle.pm_put.specs.declared.putting.CommitFile.{CommitFile}
use Rattle.pm_commit.specs.Marks.{FindsUsed}
use Rattle.pm_commit.specs.Meaning.{Knows, MakesEntry}
use Rattle.pm_commit.specs.Own.{IsNoAppend, OwnView, actor_of, begun, with_named}
use Rattle.pm_commit.specs.declared.committer.CommitStep.{CommitStep}
use Rattle.pm_commit.specs.declared.found.Found.{Found}
use Rattle.pm_commit.specs.declared.phase.Phase.{Phase}
use Rattle.pm_commit.specs.declared.phase.Phase.TheVariants as phases

-- the history with one entry more
abbrev pub with_entry : Entry → History → History
with_entry e no_table = no_table
with_entry e (table s es) = table s (es ++ e ∷ [])

-- ---- where it begins

-- what a committer that is alone begins with: its commit and the entry that this adds, and the files with the history
-- that they stand for
pub record Beginning : Type 0 where
  pub own : OwnView
  pub entry : Entry
  pub files : Files
  pub history : History

-- the id of the newest snapshot, and the commit once its try has read that
abbrev pub newest_id : Beginning → ℕ
newest_id b = count_of b.history

abbrev pub begun_at : Beginning → OwnView
begun_at b = begun (newest_id b) b.own

-- no path has another content than at the beginning; and none of these files has
abbrev pub IsUnchanged : Beginning → Files → Type 0
IsUnchanged b f = (path : List ℕ) → map.get f path ≡ map.get b.files path

abbrev pub AreUntouched : Beginning → List CommitFile → Files → Type 0
AreUntouched b files f = AllByRecursion (λ (file : CommitFile). map.get f file.path ≡ map.get b.files file.path) files

-- the table was found as it was at the beginning, at its newest snapshot
pub record SeesNewest (b : Beginning) (found : Found) : Type 0 where
  pub is_table : IsTableOf found.schema b.history
  pub id : found.newest.id ≡ newest_id b
  pub as_is : IsFoundAs b.files found.schema found.newest found.newest.snapshot

-- the newest snapshot gives this reason against the commit, whose base it is, or none
abbrev pub GivesReason : Beginning → Option Refusal → Type 0
GivesReason b reason = (found : Found) × SeesNewest b found
    × (refusal_of found.newest (begun_at b).author (begun_at b).intent ≡ reason)

-- ---- what it knows

-- the snapshot that a view's reader reads is the newest, so none of its files is absent
abbrev pub ReadsNewest : ℕ → view_phase.Phase → Type 0
ReadsNewest newest (readers.List a) = Unit {0}
ReadsNewest newest (readers.Origin q) = newest ≡ 0
ReadsNewest newest (readers.Snapshot q id) = id ≡ newest
ReadsNewest newest (readers.Base q x) = x.id ≡ newest
ReadsNewest newest (readers.Delta q x base) = x.id ≡ newest
ReadsNewest newest (readers.Manifests r) = r.snapshot.id ≡ newest
ReadsNewest newest (readers.Again a id path) = ⊥
ReadsNewest newest (readers.Ready v) = v.id ≡ newest
ReadsNewest newest readers.Over = ⊥

-- the files of the commit's one try have their names, and its snapshot is the one after the newest, which gives no
-- reason against it
abbrev pub IsTryAt : Beginning → OwnView → ℕ → Type 0
IsTryAt b own id =
    ((count : ℕ) × (own ≡ with_named count (begun_at b))) × (id ≡ newest_id b + 1) × GivesReason b None

-- the files that a putter is yet to create
abbrev pub left_of : put_phase.Phase → List CommitFile
left_of (puts.Create making) = making.next ∷ making.rest
left_of m = []

-- What is true in each phase, where nobody else acted since the beginning: no try was lost, the newest snapshot is the
-- one that was there, and a file that is yet to be created wasn't created since.
abbrev pub AloneIn : Beginning → Phase → Files → Type 0
AloneIn b (phases.Names own s) f = IsUnchanged b f × (own ≡ b.own)
AloneIn b (phases.View own m) f = IsUnchanged b f × (own ≡ b.own) × ReadsNewest (newest_id b) m
AloneIn b (phases.Search own q) f =
    IsUnchanged b f × (own ≡ begun_at b) × SeesNewest b q.found × (b.own.check ≡ true)
AloneIn b (phases.Put own s id m) f = IsTryAt b own id × AreUntouched b (left_of m) f
AloneIn b (phases.Committed author id) f =
    (author ≡ (begun_at b).author) × (id ≡ newest_id b + 1) × GivesReason b None
AloneIn b (phases.Already author) f = IsUnchanged b f × (author ≡ (begun_at b).author) × (b.own.check ≡ true)
AloneIn b phases.Over f = Unit {0}

-- the history has the entry more once the snapshot is committed, and is the same before that
abbrev pub history_in : Beginning → Phase → History
history_in b (phases.Committed author id) = with_entry b.entry b.history
history_in b other = b.history

abbrev pub AloneAt : Beginning → Phase → Files → History → Type 0
AloneAt b m f now = (now ≡ history_in b m) × AloneIn b m f

-- ---- its refusals

-- a file was there at the beginning: a listed one that has the actor's mark, or one that the actor named
abbrev pub WasUsed : Beginning → List ℕ → Type 0
WasUsed b path =
    ((names : List (List ℕ)) × IsListing (codes "manifest") names b.files × FindsUsed b.own.names names (Some path))
    ⊎ (IsNamedBy (actor_of b.own) path × IsSome (map.get b.files path))

-- Which refusals come, and what they leave: the history, but that where the store failed in the publish it may have the
-- entry more. No try is lost, no snapshot has gone, no file is damaged, and none was taken that an append needs.
abbrev pub AloneRefused : Beginning → Refusal → Files → Past → Type 0
AloneRefused b refusals.Memory f p = p.history ≡ b.history
AloneRefused b (refusals.StoreFault path) f p = (p.history ≡ b.history)
    ⊎ ((p.history ≡ with_entry b.entry b.history) × (path ≡ snapshot_path (newest_id b + 1)))
AloneRefused b (refusals.SessionUsed path) f p = (p.history ≡ b.history) × WasUsed b path
AloneRefused b (refusals.Fenced base fence) f p =
    (p.history ≡ b.history) × IsUnchanged b f × GivesReason b (Some (refusals.Fenced base fence))
AloneRefused b (refusals.CompactTaken file) f p = IsNoAppend b.own.intent
    × (p.history ≡ b.history) × IsUnchanged b f × GivesReason b (Some (refusals.CompactTaken file))
AloneRefused b (refusals.Limit which number) f p =
    (p.history ≡ b.history) × IsUnchanged b f × GivesReason b (Some (refusals.Limit which number))
AloneRefused b other f p = ⊥

-- ---- a step

-- what was known before a step, and what is known after it by its answer
abbrev pub KnewAlone : Beginning → Phase → Files → Past → Type 0
KnewAlone b m f p = Knows b.entry m f p × AloneAt b m f p.history

abbrev pub KnowsAlone : {X : Type 0} → Beginning → Phase → Result X Refusal → Files → Past → Type 0
KnowsAlone b m (Ok x) f p = KnewAlone b m f p
KnowsAlone b m (Err refusal) f p = AloneRefused b refusal f p

-- Whatever it began with: a step keeps what is known, where nobody else acted before it.
abbrev pub CommitterAlone : Phase → Phase → StoreView → StoreView → Result CommitStep Refusal → Type 0
CommitterAlone old new before after result = (b : Beginning)
    → Moves Stands (MakesEntry b.entry old) (KnewAlone b old) (KnowsAlone b new result) before after
