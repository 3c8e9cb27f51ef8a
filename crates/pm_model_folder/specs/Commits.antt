-- What a live snapshot is, and how the next one follows it.
use Rattle.std.specs.Prelude.{◌≡◌, ◌⊎◌, ℕ, zero, suc, ◌+◌, ◌<◌, ◌≤◌, ℤ, pos, negsuc, int_lt, true}
use Rattle.std.specs.Prelude.{List, [], ◌++◌, ◌∷◌, length}
use Rattle.pm_store.specs.Files.{Files}
use Rattle.pm_values.specs.Names.{Naming, name_of}
use Rattle.pm_values.specs.declared.group.Group.{Group}
use Rattle.pm_model_history.specs.History.{Entry}
use Rattle.pm_schema.specs.declared.schema.TableSchema.{TableSchema}
use Rattle.pm_snapshot.specs.Names.{BasedFile, MayName, prefix_of, suffix_of}
use Rattle.pm_snapshot.specs.declared.snapshot.Snapshot.{Snapshot}
use Rattle.pm_manifest.specs.Live.{Live, live_after}
use Rattle.pm_model_contents.specs.Lists.{none_live}
use Rattle.pm_model_contents.specs.Named.{Contents, HasContents, IsNamed}
use Rattle.pm_model_folder.specs.Entries.{BearsCounts, BearsEntry, appends_in, entry_at, fence_at}
use Rattle.pm_model_folder.specs.Meaning.{HasSnapshotAt, SnapshotAt}
use Rattle.pm_model_folder.specs.Paths.{schema_path, snapshot_path}
use Rattle.pm_model_folder.specs.Stored.{HasGroup, HoldsChange}

-- the files that are live after the entries of a snapshot's lists
abbrev pub live_in : Contents → Live
live_in c = live_after none_live c.entries

-- ---- one snapshot

-- The snapshot is there, with all that it needs, and is that of its entry: it bears the entry, the schema, the fence
-- and its counts; its live files stand for the rows up to it, group by group, and its changelog holds its change.
pub record IsCommitted (f : Files) (s : TableSchema) (entries : List Entry) (id : ℕ) : Type 0 where
  pub snapshot : Snapshot
  pub there : SnapshotAt f id snapshot
  pub contents : Contents
  pub has : HasContents f s snapshot contents
  pub entry : BearsEntry (entry_at entries id) snapshot
  pub schema : snapshot.schema_id ≡ s.id
  pub fence : snapshot.fence ≡ fence_at entries id
  pub counts : BearsCounts f s snapshot contents (live_in contents)
  pub groups : (g : Group) → HasGroup f s entries id (live_in contents) g
  pub changes : HoldsChange f s entries id contents.changes

-- ---- what a snapshot names

-- the files at the path of a snapshot and of its lists have these contents
abbrev pub HasCommit : Files → TableSchema → ℕ → Snapshot → Contents → Type 0
HasCommit f s id x c = SnapshotAt f id x × HasContents f s x c

-- the path is one that the snapshot with the id names
abbrev pub Names : Files → TableSchema → ℕ → List ℕ → Type 0
Names f s id path = (x : Snapshot) × (c : Contents) × HasCommit f s id x c × IsNamed s x c path

-- the path is that of the schema that it bears
abbrev pub IsSchemaOf : Files → ℕ → List ℕ → Type 0
IsSchemaOf f id path = (x : Snapshot) × SnapshotAt f id x × (path ≡ schema_path x.schema_id)

-- the path is one that it needs: its own, that of its schema, or one that it names
abbrev pub Needs : Files → TableSchema → ℕ → List ℕ → Type 0
Needs f s id path = (path ≡ snapshot_path id) ⊎ IsSchemaOf f id path ⊎ Names f s id path

-- ---- two snapshots, one after the other

-- who made files: a session and the number of an actor in it
pub record Maker : Type 0 where
  pub session : List ℕ
  pub actor : ℕ

-- a path whose name is one that makers of names give was made by this one, and its base is above a fence; other names
-- bear no base
abbrev pub IsFresh : Maker → ℤ → List ℕ → Type 0
IsFresh maker below path = (folder : List ℕ) (file : BasedFile) (n : Naming) → MayName n
    → path ≡ folder ++ 47 ∷ name_of (prefix_of file) (suffix_of file) n
    → (n.session ≡ maker.session) × (n.actor ≡ maker.actor) × (int_lt below (pos n.base) ≡ true)

-- what the next snapshot names and this one doesn't was made by one actor, from a base above this one's fence
pub record IsNext (s : TableSchema) (x : Snapshot) (c : Contents) (y : Snapshot) (d : Contents) : Type 0 where
  pub maker : Maker
  pub fresh : (path : List ℕ) → IsNamed s y d path → (IsNamed s x c path → ⊥) → IsFresh maker x.fence path

-- so of two snapshots that are there
abbrev pub FollowsOn : Files → TableSchema → ℕ → Type 0
FollowsOn f s id = (x y : Snapshot) (c d : Contents) → HasCommit f s id x c → HasCommit f s (id + 1) y d
    → IsNext s x c y d

-- and all that the first snapshot after the origin names was made by one actor: the origin names nothing, and its fence
-- is -1
abbrev pub BeginsOn : Files → TableSchema → Type 0
BeginsOn f s = (y : Snapshot) (d : Contents) → HasCommit f s 1 y d
    → (maker : Maker) × ((path : List ℕ) → IsNamed s y d path → IsFresh maker (negsuc 0) path)

-- a path that an earlier snapshot names and a later one too is named by those between
abbrev pub NeverReturn : Files → TableSchema → ℕ → ℕ → Type 0
NeverReturn f s first last = (early middle late : ℕ) (path : List ℕ) → first ≤ early → early < middle → middle < late
    → late ≤ last → Names f s early path → Names f s late path → Names f s middle path

-- ---- an entry comes

-- the snapshot after this one bears as many appends, and one more where its entry appends rows; the origin bears none
abbrev pub CountsAppends : Files → Files → ℕ → Entry → Type 0
CountsAppends f after zero e = (y : Snapshot) → SnapshotAt after 1 y → y.appends ≡ appends_in e
CountsAppends f after (suc n) e = (x y : Snapshot) → SnapshotAt f (suc n) x → SnapshotAt after (suc (suc n)) y
    → y.appends ≡ x.appends + appends_in e

-- What the snapshot after the newest meets: it is that of its entry, it counts the appends on, what it names and the
-- newest didn't is new, and a path that left doesn't return with it.
pub record IsCommit (f after : Files) (s : TableSchema) (entries : List Entry) (e : Entry) : Type 0 where
  pub committed : IsCommitted after s (entries ++ e ∷ []) (suc (length entries))
  pub appends : CountsAppends f after (length entries) e
  pub begins : length entries ≡ 0 → BeginsOn after s
  pub next : 1 ≤ length entries → FollowsOn after s (length entries)
  pub gone : (early middle : ℕ) (path : List ℕ) → 1 ≤ early → HasSnapshotAt f s early → early < middle
      → middle ≤ length entries → Names after s early path → Names after s (suc (length entries)) path
      → Names after s middle path
