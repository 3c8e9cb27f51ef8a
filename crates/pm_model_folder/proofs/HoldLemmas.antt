-- What a snapshot is stays where the files that are there stay as they are.
use Rattle.std.proofs.Common.{◌≡◌, ℕ, List, [], ◌∷◌, Bool, true, false, Option, Some, IsSome, refl, sym, ap, subst, ◌∙◌, Result, Ok}
use Rattle.std.specs.FinMap as map
use Rattle.std.specs.List.{AllByRecursion, AllZip}
use Rattle.pm_store.specs.Files.{Files}
use Rattle.pm_values.specs.declared.file_meta.FileMeta.{FileMeta}
use Rattle.pm_values.specs.declared.group.Group.{Group}
use Rattle.pm_values.specs.declared.record.Stamped.{Stamped}
use Rattle.pm_model_history.specs.History.{Entry}
use Rattle.pm_model_history.specs.Merge.{HistoryRow}
use Rattle.pm_schema.specs.declared.schema.TableSchema.{TableSchema}
use Rattle.pm_snapshot.specs.Snapshot.{snapshot_in}
use Rattle.pm_snapshot.specs.declared.snapshot.Snapshot.{Snapshot}
use Rattle.pm_snapshot.specs.declared.fault.SnapFault.{SnapFault}
use Rattle.pm_levels.specs.Runs.{RunView}
use Rattle.pm_manifest.specs.Live.{Live}
use Rattle.pm_manifest.specs.declared.entry.Entry as files
use Rattle.pm_manifest.specs.declared.entry.ManifestMeta.{ManifestMeta}
use Rattle.pm_model_contents.specs.Lists.{HaveEntries, IsManifest, manifest_path}
use Rattle.pm_model_contents.specs.Named.{Contents, HasContents, IsNamed}
use Rattle.pm_model_contents.specs.Runs.{data_path}
use Rattle.pm_model_folder.specs.Commits.{HasCommit, IsCommitted, Names, live_in}
use Rattle.pm_model_folder.specs.Entries.{BearsCounts}
use Rattle.pm_model_folder.specs.Meaning.{SnapshotAt}
use Rattle.pm_model_folder.specs.Paths.{snapshot_path}
use Rattle.pm_model_folder.specs.Stored.{HasFile, HasGroup, HasRun, HaveFileRows, HoldChanges, HoldsChange}
use Rattle.pm_runs.specs.Stand.{StoredRun}

-- the files that are there stay as they are
abbrev pub Holds : Files → Files → Type 0
Holds f after = (path : List ℕ) → IsSome (map.get f path) → map.get after path ≡ map.get f path

-- what the law of contents that stay says
abbrev pub ContentsStay : Type 0
ContentsStay = (f g : Files) (s : TableSchema) (x : Snapshot) (c : Contents)
    → ((path : List ℕ) → IsSome (map.get f path) → map.get g path ≡ map.get f path) → HasContents f s x c → HasContents g s x c

-- of files that a snapshot names and that are the same
abbrev pub SameContents : Type 0
SameContents = (f g : Files) (s : TableSchema) (x : Snapshot) (c : Contents)
    → ((path : List ℕ) → IsNamed s x c path → map.get g path ≡ map.get f path) → HasContents f s x c → HasContents g s x c

-- and the law of one content
abbrev pub OneContents : Type 0
OneContents = (f : Files) (s : TableSchema) (x : Snapshot) (c d : Contents) → HasContents f s x c → HasContents f s x d → c ≡ d

module _ (f after : Files) (holds : Holds f after) where
  pub there : (path bytes : List ℕ) → map.get f path ≡ Some bytes → map.get after path ≡ Some bytes
  there path bytes is = holds path (subst (λ (o : Option (List ℕ)). IsSome o) (sym is) refl) ∙ is

  pub snapshot-held : (id : ℕ) (x : Snapshot) → SnapshotAt f id x → SnapshotAt after id x
  snapshot-held id x at = (at.0, there (snapshot_path id) at.0 at.1, at.2)

  module _ (s : TableSchema) where
    file-held : (changes : Bool) (g : Group) (m : FileMeta) (rows : List Stamped) → HasFile f s changes g m rows → HasFile after s changes g m rows
    file-held changes g m rows has = record {
      bytes = has.bytes;
      there = there (data_path s g m.name) has.bytes has.there;
      schema = has.schema;
      read = has.read;
      tells = has.tells;
    }

    rows-held : (g : Group) (ms : List FileMeta) (rows : List Stamped) → HaveFileRows f s g ms rows → HaveFileRows after s g ms rows
    rows-held g [] rows have = have
    rows-held g (m ∷ ms) rows (own, later, split, has, have) = (own, later, split, file-held false g m own has, rows-held g ms later have)

    pub run-held : (g : Group) (run : RunView) (stored : StoredRun) → HasRun f s g run stored → HasRun after s g run stored
    run-held g run stored has = record { level = has.level; files = rows-held g run.files stored.rows has.files; rising = has.rising }

    runs-held : (g : Group) (runs : List RunView) (stored : List StoredRun) → AllZip (HasRun f s g) runs stored → AllZip (HasRun after s g) runs stored
    runs-held g [] [] all = all
    runs-held g [] (r ∷ stored) all = all
    runs-held g (run ∷ runs) [] all = all
    runs-held g (run ∷ runs) (r ∷ stored) (first, rest) = (run-held g run r first, runs-held g runs stored rest)

    pub group-held : (entries : List Entry) (id : ℕ) (live : Live) (g : Group) → HasGroup f s entries id live g → HasGroup after s entries id live g
    group-held entries id live g has = record {
      runs = has.runs;
      own = has.own;
      within = has.within;
      numbered = has.numbered;
      stored = has.stored;
      read = runs-held g has.runs has.stored has.read;
      stand = has.stand;
    }

    holding-held : (g : Group) (es : List files.Entry) (rows : List HistoryRow) → HoldChanges f s g es rows → HoldChanges after s g es rows
    holding-held g [] rows hold = hold
    holding-held g (e ∷ []) rows (stored, has, are) = (stored, file-held true g e.file stored has, are)
    holding-held g (e ∷ d ∷ es) rows hold = hold

    each-held : (es : List files.Entry) → AllByRecursion (λ (e : files.Entry). (rows : List Stamped) × HasFile f s true e.group e.file rows) es
        → AllByRecursion (λ (e : files.Entry). (rows : List Stamped) × HasFile after s true e.group e.file rows) es
    each-held [] all = all
    each-held (e ∷ es) (first, rest) = ((first.0, file-held true e.group e.file first.0 first.1), each-held es rest)

    change-held : (entries : List Entry) (id : ℕ) (es : List files.Entry) → HoldsChange f s entries id es → HoldsChange after s entries id es
    change-held entries id es holds = record {
      each = each-held es holds.each;
      change = λ some g. holding-held g _ _ (holds.change some g);
    }

    manifest-held : (name : List ℕ) (es : List files.Entry) → IsManifest f s name es → IsManifest after s name es
    manifest-held name es is = record { bytes = is.bytes; there = there (manifest_path name) is.bytes is.there; read = is.read }

    pub entries-held : (metas : List ManifestMeta) (es : List files.Entry) → HaveEntries f s metas es → HaveEntries after s metas es
    entries-held [] es have = have
    entries-held (meta ∷ metas) es (own, later, split, is, have) = (own, later, split, manifest-held meta.name own is, entries-held metas later have)

    counts-held : (x : Snapshot) (c : Contents) (live : Live) → BearsCounts f s x c live → BearsCounts after s x c live
    counts-held x c live bears = record {
      live_entries = bears.live_entries;
      are_live = bears.are_live;
      total = bears.total;
      delta_entries = bears.delta_entries;
      have = entries-held c.delta bears.delta_entries bears.have;
      delta = bears.delta;
      changelog = bears.changelog;
    }

    module _ (stay : ContentsStay) where
      pub commit-held : (id : ℕ) (x : Snapshot) (c : Contents) → HasCommit f s id x c → HasCommit after s id x c
      commit-held id x c (at, has) = (snapshot-held id x at, stay f after s x c holds has)

      pub names-held : (id : ℕ) (path : List ℕ) → Names f s id path → Names after s id path
      names-held id path (x, c, has, named) = (x, c, commit-held id x c has, named)

      pub committed-held : (entries : List Entry) (id : ℕ) → IsCommitted f s entries id → IsCommitted after s entries id
      committed-held entries id is = record {
        snapshot = is.snapshot;
        there = snapshot-held id is.snapshot is.there;
        contents = is.contents;
        has = stay f after s is.snapshot is.contents holds is.has;
        entry = is.entry;
        schema = is.schema;
        fence = is.fence;
        counts = counts-held is.snapshot is.contents (live_in is.contents) is.counts;
        groups = λ g. group-held entries id (live_in is.contents) g (is.groups g);
        changes = change-held entries id is.contents.changes is.changes;
      }

-- ---- a snapshot is one

some-same : (a b : List ℕ) → Some a ≡ Some b → a ≡ b
some-same a b e = cc

abbrev read_as : Snapshot → Result Snapshot SnapFault
read_as x = Ok x

read-same : (x y : Snapshot) → read_as x ≡ read_as y → x ≡ y
read-same x y e = cc

pub one-snapshot : (f : Files) (id : ℕ) (x y : Snapshot) → SnapshotAt f id x → SnapshotAt f id y → x ≡ y
one-snapshot f id x y a b =
    let same : a.0 ≡ b.0 = some-same a.0 b.0 (sym a.1 ∙ b.1) in
    read-same x y (sym a.2 ∙ ap (snapshot_in id) same ∙ b.2)

pub one-commit : OneContents → (f : Files) (s : TableSchema) (id : ℕ) (x y : Snapshot) (c d : Contents) → HasCommit f s id x c → HasCommit f s id y d
    → (x ≡ y) × (c ≡ d)
one-commit one f s id x y c d a b =
    let same = one-snapshot f id x y a.0 b.0 in
    (same, one f s y c d (subst (λ (x : Snapshot). HasContents f s x c) same a.1) b.1)

-- what a snapshot that was there names afterwards it named before
module _ (one : OneContents) (stay : ContentsStay) (f after : Files) (holds : Holds f after) (s : TableSchema) where
  pub commit-was : (entries : List Entry) (id : ℕ) (x : Snapshot) (c : Contents) → IsCommitted f s entries id → HasCommit after s id x c → HasCommit f s id x c
  commit-was entries id x c is has =
      let same = one-commit one after s id is.snapshot x is.contents c (commit-held f after holds s stay id is.snapshot is.contents (is.there, is.has)) has in
      let at : SnapshotAt f id x = subst (λ (x : Snapshot). SnapshotAt f id x) same.0 is.there in
      let first : HasContents f s x is.contents = subst (λ (x : Snapshot). HasContents f s x is.contents) same.0 is.has in
      (at, subst (λ (c : Contents). HasContents f s x c) same.1 first)

  pub names-were : (entries : List Entry) (id : ℕ) (path : List ℕ) → IsCommitted f s entries id → Names after s id path → Names f s id path
  names-were entries id path is (x, c, has, named) = (x, c, commit-was entries id x c is has, named)
