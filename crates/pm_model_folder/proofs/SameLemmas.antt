-- What a snapshot is stays where what it needs stays.
use Rattle.std.proofs.Common.{◌≡◌, inl, inr, ℕ, List, [], ◌∷◌, ◌++◌, filter, Bool, true, false, cond, Contains, refl, sym, ap, subst, ◌∙◌, arith}
use Rattle.std.specs.FinMap as map
use Rattle.std.specs.List.{AllByRecursion, AllZip}
use Rattle.std.specs.Ordering.{eq_by_cmp}
use Rattle.std.proofs.lemmas.List.Elements.{Contains-append_left, Contains-append_right, Contains-append_cases, Contains-push, Contains-push_cases}
use Rattle.std.proofs.lemmas.List.Sorted.{Contains-permutation, IsPermutation-sym}
use Rattle.pm_store.specs.Files.{Files}
use Rattle.pm_values.specs.GroupOrder.{group_cmp}
use Rattle.pm_values.specs.declared.file_meta.FileMeta.{FileMeta}
use Rattle.pm_values.specs.declared.group.Group.{Group}
use Rattle.pm_values.specs.declared.record.Stamped.{Stamped}
use Rattle.pm_model_history.specs.History.{Entry}
use Rattle.pm_model_history.specs.Merge.{HistoryRow}
use Rattle.pm_schema.specs.declared.schema.TableSchema.{TableSchema}
use Rattle.pm_snapshot.specs.declared.snapshot.Snapshot.{Snapshot}
use Rattle.pm_levels.specs.Runs.{RunView, files_of}
use Rattle.pm_manifest.specs.declared.entry.Entry as files
use Rattle.pm_manifest.specs.declared.entry.ManifestMeta.{ManifestMeta}
use Rattle.pm_model_contents.specs.Lists.{HaveEntries, manifest_path}
use Rattle.pm_model_contents.specs.Named.{Contents, HasContents, IsNamed, changes_file, data_file, manifest}
use Rattle.pm_model_contents.specs.Runs.{AreRunsOf, data_path}
use Rattle.pm_model_folder.specs.Commits.{HasCommit, IsCommitted, Names, Needs, live_in}
use Rattle.pm_model_folder.specs.Entries.{BearsCounts}
use Rattle.pm_model_folder.specs.Meaning.{SnapshotAt}
use Rattle.pm_model_folder.specs.Paths.{snapshot_path}
use Rattle.pm_model_folder.specs.Stored.{HasFile, HasGroup, HasRun, HaveFileRows, HoldChanges, HoldsChange, entries_in}
use Rattle.pm_model_folder.proofs.HoldLemmas.{OneContents, SameContents, one-commit}
use Rattle.pm_runs.specs.Stand.{StoredRun}

-- ---- lists

here : {X : Type 0} (x : X) (xs : List X) → Contains (x ∷ xs) x
here x xs = Contains-append_left (x ∷ []) xs x (Contains-push [] x)

more : {X : Type 0} (x : X) (xs : List X) (q : X) → Contains xs q → Contains (x ∷ xs) q
more x xs q c = Contains-append_right (x ∷ []) xs q c

in-cons : {X : Type 0} (t : Bool) (y : X) (kept xs : List X) (x : X) → (Contains kept x → Contains xs x) → Contains (cond t (y ∷ kept) kept) x → Contains (y ∷ xs) x
in-cons false y kept xs x later c = more y xs x (later c)
in-cons true y kept xs x later c = elim (Contains-append_cases (y ∷ []) kept x c) as (λ _. Contains (y ∷ xs) x) [
  | inl first ↦ elim (Contains-push_cases [] y x first) as (λ _. Contains (y ∷ xs) x) [
    | inl none ↦ absurd (let below = none.1 in omega (arith, below))
    | inr same ↦ subst (Contains (y ∷ xs)) same (here y xs)
  ]
  | inr rest ↦ more y xs x (later rest)
]

in-filter : {X : Type 0} (p : X → Bool) (xs : List X) (x : X) → Contains (filter p xs) x → Contains xs x
in-filter p [] x c = c
in-filter p (y ∷ xs) x c = in-cons (p y) y (filter p xs) xs x (in-filter p xs x) c

module _ (f after : Files) (s : TableSchema) (x : Snapshot) (c : Contents)
    (same : (path : List ℕ) → IsNamed s x c path → map.get after path ≡ map.get f path) where
  -- ---- files of rows

  file-same : (changes : Bool) (g : Group) (m : FileMeta) (rows : List Stamped) → map.get after (data_path s g m.name) ≡ map.get f (data_path s g m.name)
      → HasFile f s changes g m rows → HasFile after s changes g m rows
  file-same changes g m rows is has = record {
    bytes = has.bytes;
    there = is ∙ has.there;
    schema = has.schema;
    read = has.read;
    tells = has.tells;
  }

  abbrev AreSameIn : Group → List FileMeta → Type 0
  AreSameIn g ms = (m : FileMeta) → Contains ms m → map.get after (data_path s g m.name) ≡ map.get f (data_path s g m.name)

  rows-same : (g : Group) (ms : List FileMeta) (rows : List Stamped) → AreSameIn g ms → HaveFileRows f s g ms rows → HaveFileRows after s g ms rows
  rows-same g [] rows is have = have
  rows-same g (m ∷ ms) rows is (own, later, split, has, have) =
      (own, later, split, file-same false g m own (is m (here m ms)) has, rows-same g ms later (λ n there. is n (more m ms n there)) have)

  run-same : (g : Group) (run : RunView) (stored : StoredRun) → AreSameIn g run.files → HasRun f s g run stored → HasRun after s g run stored
  run-same g run stored is has = record { level = has.level; files = rows-same g run.files stored.rows is has.files; rising = has.rising }

  runs-same : (g : Group) (runs : List RunView) (stored : List StoredRun) → AreSameIn g (files_of runs) → AllZip (HasRun f s g) runs stored → AllZip (HasRun after s g) runs stored
  runs-same g [] [] is all = all
  runs-same g [] (r ∷ stored) is all = all
  runs-same g (run ∷ runs) [] is all = all
  runs-same g (run ∷ runs) (r ∷ stored) is (first, rest) = (
    run-same g run r (λ m there. is m (Contains-append_left run.files (files_of runs) m there)) first,
    runs-same g runs stored (λ m there. is m (Contains-append_right run.files (files_of runs) m there)) rest,
  )

  -- the files of a group's runs are live, so they are named
  group-named : (g : Group) (runs : List RunView) → AreRunsOf (live_in c) g runs → AreSameIn g (files_of runs)
  group-named g runs are m there =
      let o = (are.own.exact m).0 (Contains-permutation (files_of runs) are.files m (IsPermutation-sym are.files (files_of runs) are.made.whole) there) in
      let path : data_path s o.0.group o.0.file.name ≡ data_path s g m.name = λ i. data_path s (o.2 i) ((ap (λ (m : FileMeta). m.name) o.3) i) in
      subst (λ (q : List ℕ). map.get after q ≡ map.get f q) path (same (data_path s o.0.group o.0.file.name) (data_file o.0 o.1))

  group-same : (entries : List Entry) (id : ℕ) (g : Group) → HasGroup f s entries id (live_in c) g → HasGroup after s entries id (live_in c) g
  group-same entries id g has = record {
    runs = has.runs;
    own = has.own;
    within = has.within;
    numbered = has.numbered;
    stored = has.stored;
    read = runs-same g has.runs has.stored (group-named g has.runs has.own) has.read;
    stand = has.stand;
  }

  -- ---- the changelog

  each-same : (es : List files.Entry) → ((e : files.Entry) → Contains es e → Contains c.changes e)
      → AllByRecursion (λ (e : files.Entry). (rows : List Stamped) × HasFile f s true e.group e.file rows) es
      → AllByRecursion (λ (e : files.Entry). (rows : List Stamped) × HasFile after s true e.group e.file rows) es
  each-same [] own all = tt
  each-same (e ∷ es) own (first, rest) = (
    (first.0, file-same true e.group e.file first.0 (same (data_path s e.group e.file.name) (changes_file e (own e (here e es)))) first.1),
    each-same es (λ d there. own d (more e es d there)) rest,
  )

  holding-same : (g : Group) (es : List files.Entry) (rows : List HistoryRow) → ((e : files.Entry) → Contains es e → Contains c.changes e × (eq_by_cmp group_cmp e.group g ≡ true))
      → ((e : files.Entry) → eq_by_cmp group_cmp e.group g ≡ true → e.group ≡ g) → HoldChanges f s g es rows → HoldChanges after s g es rows
  holding-same g [] rows own tied hold = hold
  holding-same g (e ∷ []) rows own tied (stored, has, are) =
      let o = own e (here e []) in
      let path : data_path s e.group e.file.name ≡ data_path s g e.file.name = ap (λ (g : Group). data_path s g e.file.name) (tied e o.1) in
      (stored, file-same true g e.file stored (subst (λ (q : List ℕ). map.get after q ≡ map.get f q) path (same (data_path s e.group e.file.name) (changes_file e o.0))) has, are)
  holding-same g (e ∷ d ∷ es) rows own tied hold = hold

  in-group : (g : Group) (es : List files.Entry) (e : files.Entry) → Contains (entries_in g es) e → eq_by_cmp group_cmp e.group g ≡ true
  in-group g [] e there = absurd (let below = there.1 in omega (arith, below))
  in-group g (d ∷ es) e there = at (eq_by_cmp group_cmp d.group g) refl (in-group g es e) there
    where
      at : (t : Bool) → eq_by_cmp group_cmp d.group g ≡ t → (Contains (entries_in g es) e → eq_by_cmp group_cmp e.group g ≡ true)
          → Contains (cond t (d ∷ entries_in g es) (entries_in g es)) e → eq_by_cmp group_cmp e.group g ≡ true
      at false is rest there = rest there
      at true is rest there = elim (Contains-append_cases (d ∷ []) (entries_in g es) e there) as (λ _. eq_by_cmp group_cmp e.group g ≡ true) [
        | inl first ↦ elim (Contains-push_cases [] d e first) as (λ _. eq_by_cmp group_cmp e.group g ≡ true) [
          | inl none ↦ absurd (let below = none.1 in omega (arith, below))
          | inr one ↦ subst (λ (e : files.Entry). eq_by_cmp group_cmp e.group g ≡ true) one is
        ]
        | inr later ↦ rest later
      ]

  change-same : ((a b : Group) → eq_by_cmp group_cmp a b ≡ true → a ≡ b) → (entries : List Entry) (id : ℕ) → HoldsChange f s entries id c.changes → HoldsChange after s entries id c.changes
  change-same tied entries id holds = record {
    each = each-same c.changes (λ e there. there) holds.each;
    change = λ some g. holding-same g (entries_in g c.changes) _
        (λ e there. (in-filter (λ (e : files.Entry). eq_by_cmp group_cmp e.group g) c.changes e there, in-group g c.changes e there))
        (λ e is. tied e.group g is) (holds.change some g);
  }

  -- ---- the counts

  manifests-same : (metas : List ManifestMeta) (es : List files.Entry) → ((m : ManifestMeta) → Contains metas m → Contains (c.base ++ c.delta) m)
      → HaveEntries f s metas es → HaveEntries after s metas es
  manifests-same [] es own have = have
  manifests-same (meta ∷ metas) es own (mine, later, split, is, have) = (
    mine,
    later,
    split,
    record { bytes = is.bytes; there = same (manifest_path meta.name) (manifest meta (inl (own meta (here meta metas)))) ∙ is.there; read = is.read },
    manifests-same metas later (λ m there. own m (more meta metas m there)) have,
  )

  counts-same : BearsCounts f s x c (live_in c) → BearsCounts after s x c (live_in c)
  counts-same bears = record {
    live_entries = bears.live_entries;
    are_live = bears.are_live;
    total = bears.total;
    delta_entries = bears.delta_entries;
    have = manifests-same c.delta bears.delta_entries (λ m there. Contains-append_right c.base c.delta m there) bears.have;
    delta = bears.delta;
    changelog = bears.changelog;
  }

-- ---- a snapshot

module _ (one : OneContents) (law : SameContents) (tied : (a b : Group) → eq_by_cmp group_cmp a b ≡ true → a ≡ b) (f after : Files) (s : TableSchema) where
  pub committed-same : (entries : List Entry) (id : ℕ) → ((path : List ℕ) → Needs f s id path → map.get after path ≡ map.get f path) → IsCommitted f s entries id
      → IsCommitted after s entries id
  committed-same entries id same is = record {
    snapshot = is.snapshot;
    there = (is.there.0, same (snapshot_path id) (inl refl) ∙ is.there.1, is.there.2);
    contents = is.contents;
    has = law f after s is.snapshot is.contents named is.has;
    entry = is.entry;
    schema = is.schema;
    fence = is.fence;
    counts = counts-same f after s is.snapshot is.contents named is.counts;
    groups = λ g. group-same f after s is.snapshot is.contents named entries id g (is.groups g);
    changes = change-same f after s is.snapshot is.contents named tied entries id is.changes;
  }
    where
      named : (path : List ℕ) → IsNamed s is.snapshot is.contents path → map.get after path ≡ map.get f path
      named path name = same path (inr (inr (is.snapshot, is.contents, (is.there, is.has), name)))

  commit-same : (entries : List Entry) (id : ℕ) → ((path : List ℕ) → Needs f s id path → map.get after path ≡ map.get f path) → (is : IsCommitted f s entries id)
      → HasCommit after s id is.snapshot is.contents
  commit-same entries id same is = (
    (is.there.0, same (snapshot_path id) (inl refl) ∙ is.there.1, is.there.2),
    law f after s is.snapshot is.contents (λ path name. same path (inr (inr (is.snapshot, is.contents, (is.there, is.has), name)))) is.has,
  )

  -- what it is afterwards it was before, and it names the same
  pub commit-back : (entries : List Entry) (id : ℕ) (x : Snapshot) (c : Contents) → ((path : List ℕ) → Needs f s id path → map.get after path ≡ map.get f path)
      → IsCommitted f s entries id → HasCommit after s id x c → HasCommit f s id x c
  commit-back entries id x c same is has =
      let both = one-commit one after s id is.snapshot x is.contents c (commit-same entries id same is) has in
      let at : SnapshotAt f id x = subst (λ (x : Snapshot). SnapshotAt f id x) both.0 is.there in
      let first : HasContents f s x is.contents = subst (λ (x : Snapshot). HasContents f s x is.contents) both.0 is.has in
      (at, subst (λ (c : Contents). HasContents f s x c) both.1 first)

  pub names-back : (entries : List Entry) (id : ℕ) (path : List ℕ) → ((path : List ℕ) → Needs f s id path → map.get after path ≡ map.get f path)
      → IsCommitted f s entries id → Names after s id path → Names f s id path
  names-back entries id path same is (x, c, has, named) = (x, c, commit-back entries id x c same is has, named)

  pub names-on : (entries : List Entry) (id : ℕ) (path : List ℕ) → ((path : List ℕ) → Needs f s id path → map.get after path ≡ map.get f path)
      → IsCommitted f s entries id → Names f s id path → Names after s id path
  names-on entries id path same is (x, c, has, named) =
      let both = one-commit one f s id is.snapshot x is.contents c (is.there, is.has) has in
      (is.snapshot, is.contents, commit-same entries id same is, subst (λ (c : Contents). IsNamed s is.snapshot c path) (sym both.1) (subst (λ (x : Snapshot). IsNamed s x c path) (sym both.0) named))
