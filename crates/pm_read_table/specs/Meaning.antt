-- What a reader of a view knows of the snapshots, and which refusals come.
use Rattle.std.specs.Prelude.{◌≡◌, ℕ, ◌≤◌, ◌<◌, List, ◌∷◌, ◌++◌, Contains, None, IsSome}
use Rattle.std.specs.FinMap as map
use Rattle.pm_values.specs.declared.refusal.Refusal.{Refusal}
use Rattle.pm_values.specs.declared.refusal.Refusal.TheVariants as refusals
use Rattle.pm_store.specs.Files.{Files}
use Rattle.pm_model_history.specs.History.{IsTableOf}
use Rattle.pm_schema.specs.declared.schema.TableSchema.{TableSchema}
use Rattle.pm_snapshot.specs.Names.{greatest}
use Rattle.pm_snapshot.specs.declared.snapshot.Snapshot.{Snapshot}
use Rattle.pm_model_folder.specs.Ledger.{IsKnown, Past, count_of}
use Rattle.pm_model_folder.specs.Meaning.{SnapshotAt}
use Rattle.pm_model_folder.specs.Paths.{snapshot_path}
use Rattle.pm_paths.specs.Ids.{IsGreatestOf}
use Rattle.pm_read_schema.specs.Beside.{IsExpired}
use Rattle.pm_manifest.specs.Live.{AreInOrder, Leaves, Live}
use Rattle.pm_manifest.specs.declared.entry.Entry.{Entry}
use Rattle.pm_manifest.specs.declared.entry.ManifestMeta.{ManifestMeta}
use Rattle.pm_model_contents.specs.Lists.{HasEntries, HaveEntries, IsList, none_live}
use Rattle.pm_read_table.specs.Reading.{ReadingView, live_of}
use Rattle.pm_read_table.specs.View.{IsOriginView, IsViewOf, kept_for}
use Rattle.pm_read_table.specs.declared.asked.Wanted.{Wanted}
use Rattle.pm_read_table.specs.declared.asked.Wanted.TheVariants as wants
use Rattle.pm_read_table.specs.declared.phase.Phase.{Phase}
use Rattle.pm_read_table.specs.declared.phase.Phase.TheVariants as phases
use Rattle.pm_read_table.specs.declared.view.View.{View}

-- the snapshot is one of the table's, and names its schema: it stood so when it was committed, whether or not it has
-- gone since
pub record Stood (p : Past) (s : TableSchema) (x : Snapshot) : Type 0 where
  pub table : IsTableOf s p.history
  pub known : IsKnown p x.id
  pub was : SnapshotAt (p.stood x.id) x.id x
  pub schema : x.schema_id ≡ s.id

-- In these files a snapshot's lists have the manifests of a reading in their order; those that were read have entries
-- in their order, after which its files are live, and which are kept where the live ones are asked for.
abbrev pub IsReadingOf : Files → ReadingView → Type 0
IsReadingOf f r =
    (base delta : List ManifestMeta) × (entries : List Entry) × IsList f r.snapshot.base_list base
    × IsList f r.snapshot.delta_list delta × (base ++ delta ≡ r.done ++ r.next ∷ r.rest)
    × HaveEntries f r.sought.asked.schema r.done entries × AreInOrder none_live entries
    × Leaves none_live entries (live_of r.files) × (r.kept ≡ kept_for r.sought.asked.wanted entries)

-- The view is that of the table at a snapshot as it stood: its groups have the runs of the files that are live after
-- the entries of the snapshot's lists, and it has these files' entries where they are asked for. Or the snapshot is the
-- origin, and no group has files.
pub data IsViewIn (p : Past) (v : View) : Type 0 where
  view_origin : IsOriginView v.schema v → IsViewIn p v
  view_snapshot : (x : Snapshot) (base delta : List ManifestMeta) (entries : List Entry) (live : Live)
      → Stood p v.schema x → HasEntries (p.stood x.id) v.schema x base delta entries → Leaves none_live entries live
      → IsViewOf v.schema x (base ++ delta) (kept_for v.wanted entries) live v → IsViewIn p v

-- The ids that were listed are of snapshots of the table. Of those up to the greatest of them, each that is there is
-- one of them: what came after they were listed is above, and what has gone doesn't come again.
pub record KnowsListed (f : Files) (p : Past) (ids : List ℕ) : Type 0 where
  pub within : (id : ℕ) → Contains ids id → (1 ≤ id) × (id ≤ count_of p.history)
  pub all : (id later : ℕ) → IsKnown p id → id ≤ later → Contains ids later → IsSome (map.get f (snapshot_path id))
      → Contains ids id

-- the id is the one that is asked for, or where the latest is, that of the latest that was listed
abbrev pub IsFor : Wanted → List ℕ → ℕ → Type 0
IsFor (wants.At asked) ids id = id ≡ asked
IsFor (wants.Whole asked) ids id = id ≡ asked
IsFor other ids id = IsGreatestOf ids id

-- the latest snapshot is asked for
abbrev pub AsksLatest : Wanted → Type 0
AsksLatest (wants.At asked) = ⊥
AsksLatest (wants.Whole asked) = ⊥
AsksLatest other = Unit {0}

-- What was listed is known, and the snapshot with the id is the one that is asked for, which the table has or had. The
-- latest is one of which the groups' runs are known.
pub record KnowsSought (f : Files) (p : Past) (wanted : Wanted) (ids : List ℕ) (id : ℕ) : Type 0 where
  pub listed : KnowsListed f p ids
  pub asked : IsFor wanted ids id
  pub within : id ≤ count_of p.history
  pub reaches : AsksLatest wanted → p.since ≤ id

-- the snapshot with the id is one of the table's, and has gone
pub record HasGone (f : Files) (p : Past) (s : TableSchema) (id : ℕ) : Type 0 where
  pub table : IsTableOf s p.history
  pub known : IsKnown p id
  pub absent : map.get f (snapshot_path id) ≡ None

-- What it knows in each phase, whatever others do: that there is a table of the schema; what was listed, and that the
-- snapshot to be read is the one that is asked for, at most the newest; that what was read is what stood at the
-- snapshot; and once a file that the snapshot names is absent, that the snapshot has gone.
abbrev pub Knows : Phase → Files → Past → Type 0
Knows (phases.List a) f p = IsTableOf a.schema p.history
Knows (phases.Origin q) f p = IsTableOf q.asked.schema p.history × KnowsSought f p q.asked.wanted q.listed 0
Knows (phases.Snapshot q id) f p =
    IsTableOf q.asked.schema p.history × (1 ≤ id) × (id ≤ greatest) × KnowsSought f p q.asked.wanted q.listed id
Knows (phases.Base q x) f p = Stood p q.asked.schema x × KnowsSought f p q.asked.wanted q.listed x.id
Knows (phases.Delta q x base) f p =
    Stood p q.asked.schema x × IsList (p.stood x.id) x.base_list base.items
    × KnowsSought f p q.asked.wanted q.listed x.id
Knows (phases.Manifests r) f p =
    Stood p r.sought.asked.schema r.snapshot × IsReadingOf (p.stood r.snapshot.id) r
    × KnowsSought f p r.sought.asked.wanted r.sought.listed r.snapshot.id
Knows (phases.Again a id path) f p = HasGone f p a.schema id
Knows (phases.Ready v) f p =
    IsTableOf v.schema p.history × IsViewIn p v × KnowsSought f p v.wanted v.listed.items v.id
Knows phases.Over f p = Unit {0}

-- The refusals that answers show where the files stand, whatever others do: the snapshot that is asked for is above the
-- newest, or has gone, or memory ran out. No file is damaged.
abbrev pub MayRefuse : Files → Past → Refusal → Type 0
MayRefuse f p refusals.Memory = Unit {0}
MayRefuse f p (refusals.NoSnapshot id latest) = (latest ≡ count_of p.history) × (latest < id)
MayRefuse f p (refusals.Expired id) = IsExpired f p id
MayRefuse f p other = ⊥
