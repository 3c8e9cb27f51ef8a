-- When what was made of an intent adds its entry to the history, once it is published.
use Rattle.std.specs.Prelude.{◌≡◌, ℕ, suc, ◌+◌, ◌<◌, ◌≤◌, ◌^◌, pos, int_lt, List, [], ◌++◌, length, true, Option, Some, None}
use Rattle.std.specs.List.{AllByRecursion, AllPairs}
use Rattle.pm_store.specs.Files.{Files}
use Rattle.pm_values.specs.Names.{Naming}
use Rattle.pm_model_history.specs.History.{Entry}
use Rattle.pm_schema.specs.declared.schema.TableSchema.{TableSchema}
use Rattle.pm_snapshot.specs.Names.{MayName}
use Rattle.pm_snapshot.specs.declared.snapshot.Snapshot.{Snapshot}
use Rattle.pm_manifest.specs.Entries.{IsEntry}
use Rattle.pm_manifest.specs.Live.{id_of}
use Rattle.pm_manifest.specs.Shape.{shape_of}
use Rattle.pm_manifest.specs.declared.entry.Entry as files
use Rattle.pm_model_contents.specs.Lists.{HaveEntries, IsChangelogEntry}
use Rattle.pm_model_contents.specs.Named.{Contents}
use Rattle.pm_model_contents.specs.Runs.{data_path}
use Rattle.pm_model_folder.specs.Changes.{Actor, IsNamedBy, IsOwnFile}
use Rattle.pm_model_folder.specs.Commits.{HasCommit, Names, live_in}
use Rattle.pm_model_folder.specs.Entries.{AreLive, fence_at}
use Rattle.pm_model_folder.specs.Folder.{HasTable}
use Rattle.pm_put.specs.Meaning.{IsPut}
use Rattle.pm_made.specs.Delta.{Delta, entries_of, left_of}
use Rattle.pm_made.specs.Files.{IsMadeOf, merges}
use Rattle.pm_made.specs.Intent.{IsEntryFor, given_files, most_files}
use Rattle.pm_made.specs.Refusals.{refusal_of}
use Rattle.pm_made.specs.Snapshot.{appends_of, new_snapshot}
use Rattle.pm_made.specs.declared.intent.Intent.{Intent}
use Rattle.pm_made.specs.declared.intent.Intent.TheVariants as intents
use Rattle.pm_made.specs.declared.newest.Author.{Author}
use Rattle.pm_made.specs.declared.newest.Made.{Made}
use Rattle.pm_made.specs.declared.newest.Newest.{Newest}

-- one try to commit: what for, who commits, the newest snapshot as it was found, the maker of names before it named the
-- files, and what was made
pub record Attempt : Type 0 where
  pub intent : Intent
  pub author : Author
  pub newest : Newest
  pub names : Naming
  pub made : Made

-- ---- what it begins with

-- the snapshot has these manifests and live entries; the origin has none
abbrev pub IsFoundAs : Files → TableSchema → Newest → Option Snapshot → Type 0
IsFoundAs f s newest None = (newest.id ≡ 0) × (newest.manifests.items ≡ []) × (newest.live.items ≡ [])
IsFoundAs f s newest (Some x) = (c : Contents) × HasCommit f s newest.id x c
    × (newest.manifests.items ≡ c.base ++ c.delta) × AreLive (live_in c) newest.live.items

-- the newest snapshot of a table with these entries is as it was found
pub record IsNewestOf (f : Files) (s : TableSchema) (entries : List Entry) (newest : Newest) : Type 0 where
  pub id : newest.id ≡ length entries
  pub found : IsFoundAs f s newest newest.snapshot

-- the actor makes the names, whose base is that of the commit; there are enough of them
pub record MakesNames (me : Actor) (t : Attempt) : Type 0 where
  pub session : t.names.session ≡ me.session
  pub actor : t.names.actor ≡ me.number
  pub based : t.names.base ≡ t.author.base
  pub may : MayName t.names
  pub room : t.names.count + most_files t.intent < 2 ^ 64

-- the files of rows that a commit was given were named by its actor, with its base
abbrev pub AreOwnFiles : Actor → TableSchema → Attempt → Type 0
AreOwnFiles me s t = AllByRecursion
    (λ (x : files.Entry). IsOwnFile me t.author.base (data_path s x.group x.file.name)) (given_files t.intent)

-- a fence that a commit raises is above that of the entries before it, and below its own number
abbrev pub MayRaise : List Entry → Intent → Type 0
MayRaise entries (intents.Fence number) = (int_lt (fence_at entries (length entries)) number ≡ true)
    × (int_lt number (pos (suc (length entries))) ≡ true)
MayRaise entries other = Unit {0}

-- a compaction that was asked in full bears no more appends than the newest snapshot has
abbrev pub IsFullWithin : Option Snapshot → Intent → Type 0
IsFullWithin o (intents.Compact plan) = (appends : ℕ) → plan.full ≡ Some appends → appends ≤ appends_of o
IsFullWithin o other = Unit {0}

-- no two of the entries are of one file
abbrev pub AreApart : List files.Entry → Type 0
AreApart es = AllPairs (λ (a b : files.Entry). id_of a ≡ id_of b → ⊥) es

-- What a delta's entries have to be: such as a manifest can have, no two that go of one file and no two that come, and
-- its changelog files add files at level 0.
pub record MayChange (s : TableSchema) (d : Delta) : Type 0 where
  pub can_go : AllByRecursion (IsEntry (shape_of s)) d.removed
  pub can_come : AllByRecursion (IsEntry (shape_of s)) d.added
  pub can_tell : AllByRecursion (IsEntry (shape_of s)) d.changes
  pub told : AllByRecursion IsChangelogEntry d.changes
  pub removed : AreApart d.removed
  pub added : AreApart d.added

-- The try can be published by an actor while the newest snapshot stands: the files that it makes are in place, those of
-- rows that it was given are the actor's, and no snapshot names a file that the actor named.
pub record IsReady (me : Actor) (f : Files) (s : TableSchema) (entries : List Entry) (e : Entry) (t : Attempt) : Type 0
  where
    pub folder : HasTable f s entries
    pub newest : IsNewestOf f s entries t.newest
    pub means : IsEntryFor t.author t.intent e
    pub may_raise : MayRaise entries t.intent
    pub made : IsMadeOf s t.newest t.author t.intent t.names t.made
    pub may_change : MayChange s made.delta
    pub allowed : refusal_of t.newest t.author t.intent ≡ None
    pub base : t.author.base ≤ t.newest.id
    pub full : IsFullWithin t.newest.snapshot t.intent
    pub maker : MakesNames me t
    pub own : AreOwnFiles me s t
    pub there : AllByRecursion (IsPut f) t.made.files.items
    pub unnamed : (id : ℕ) (path : List ℕ) → 1 ≤ id → id ≤ length entries → Names f s id path
        → IsNamedBy me path → ⊥

-- ---- what is there then

-- the snapshot that was made
abbrev pub snapshot_of : (s : TableSchema) (t : Attempt) → IsMadeOf s t.newest t.author t.intent t.names t.made
    → Snapshot
snapshot_of s t made = new_snapshot s t.newest t.author t.intent made.delta made.lists

-- The snapshot that is there is the one that was made, to its last field. Its lists have the manifests with which it
-- was made: where they are merged the base list's have the files that were live before it, and those of the delta list
-- and of the changelog list the delta's entries and its changelog files. Live are the files that are left, and those
-- that came.
pub record IsAsMade (f : Files) (s : TableSchema) (id : ℕ) (t : Attempt)
    (made : IsMadeOf s t.newest t.author t.intent t.names t.made) : Type 0 where
  pub contents : Contents
  pub commit : HasCommit f s id (snapshot_of s t made) contents
  pub base : contents.base ≡ made.are_manifests.base
  pub merged : merges s t.newest.manifests.items ≡ true → HaveEntries f s contents.base t.newest.live.items
  pub delta : contents.delta ≡ made.are_manifests.are_lists.delta
  pub entries : HaveEntries f s contents.delta (entries_of made.delta)
  pub changelog : contents.changelog ≡ made.are_manifests.are_lists.changes
  pub changes : contents.changes ≡ made.delta.changes
  pub live : AreLive (live_in contents) (left_of made.delta.removed t.newest.live.items ++ made.delta.added)
