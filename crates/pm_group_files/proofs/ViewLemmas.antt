-- What the groups of a view, and the files that it names, are in the files as they stood when its snapshot was committed.
use Rattle.std.proofs.Common.{◌≡◌, ◌≢◌, ℕ, List, [], ◌∷◌, ◌++◌, take, true, false, cond, Contains, Some, None, Ok, Less, inr, refl, sym, ap, subst, ◌∙◌}
use Rattle.std.specs.BTreeMap.{is_at}
use Rattle.std.specs.Cmp.{tied_itself}
use Rattle.std.specs.List.{AllByRecursion, AllZip}
use Rattle.std.specs.List.Sorted.{IsStrictlySortedBy}
use Rattle.std.specs.Map.{keys_of, lookup}
use Rattle.std.specs.Ordering.{is_eq}
use Rattle.std.specs.declared.cmp.Ordering.TheVariants as orders
use Rattle.std.proofs.lemmas.List.Elements.{All-contains_itself, All-weaker, recursion_from_All}
use Rattle.std.proofs.lemmas.List.Sorted.{Contains-permutation, IsPermutation-sym}
use Rattle.pm_store.specs.Files.{Files}
use Rattle.pm_values.specs.GroupOrder.{group_cmp, group_total}
use Rattle.pm_values.specs.declared.file_meta.FileMeta.{FileMeta}
use Rattle.pm_values.specs.declared.group.Group.{Group}
use Rattle.pm_values.proofs.Lemmas.{group_cmp-IsAntisymmetric}
use Rattle.pm_schema.specs.declared.schema.TableSchema.{TableSchema}
use Rattle.pm_model_history.specs.History.{Entry, History, IsTableOf, no_table, table}
use Rattle.pm_snapshot.specs.Snapshot.{snapshot_in}
use Rattle.pm_snapshot.specs.declared.snapshot.Snapshot.{Snapshot}
use Rattle.pm_levels.specs.Runs.{RunView, files_of}
use Rattle.pm_manifest.specs.Live.{Leaves, Live, live_after}
use Rattle.pm_manifest.specs.declared.entry.Entry as files
use Rattle.pm_manifest.specs.declared.entry.ManifestMeta.{ManifestMeta}
use Rattle.pm_model_contents.specs.Groups.{GroupRuns}
use Rattle.pm_model_contents.specs.Lists.{HasEntries, none_live}
use Rattle.pm_model_contents.specs.Named.{Contents, HasContents, IsNamed, data_file}
use Rattle.pm_model_contents.specs.Runs.{AreRunsOf, IsLive, data_path}
use Rattle.pm_model_folder.specs.Commits.{IsCommitted, Needs, live_in}
use Rattle.pm_model_folder.specs.Ledger.{IsKnown, KnowsPast, Past, Stands}
use Rattle.pm_model_folder.specs.Meaning.{SnapshotAt}
use Rattle.pm_model_folder.specs.Stored.{HasGroup, HasRun}
use Rattle.pm_read_table.specs.View.{IsViewOf, kept_for, runs_at}
use Rattle.pm_read_table.specs.Meaning.{IsViewIn, Stood, view_origin, view_snapshot}
use Rattle.pm_read_table.specs.declared.view.View.{View}
use Rattle.pm_group_files.specs.Jobs.{Grouped, file_jobs, run_jobs, whole_group}
use Rattle.pm_group_files.specs.Meaning.{HasRuns, IsTableView, StoodAt}
use Rattle.pm_group_files.specs.declared.job.Ends.{Ends}
use Rattle.pm_group_files.specs.declared.job.Ends.TheVariants as ends
use Rattle.pm_group_files.specs.declared.job.Job.{Job}
use Rattle.pm_group_files.proofs.ReadLemmas.{all-joined, all-parts}

-- ---- the laws of the crates below

abbrev pub OneContents : Type 0
OneContents = (f : Files) (s : TableSchema) (x : Snapshot) (c d : Contents) → HasContents f s x c → HasContents f s x d → c ≡ d

abbrev pub OneRuns : Type 0
OneRuns = (live : Live) (g : Group) (runs others : List RunView) → AreRunsOf live g runs → AreRunsOf live g others → runs ≡ others

-- ---- the groups of a view

-- groups at which a query stands are one
pub at-one : (g h : Group) → is_at (group_cmp g) h ≡ true → g ≡ h
at-one g h e =
    elim (group_cmp g h) as (λ o. group_cmp g h ≡ o → is_eq o ≡ true → g ≡ h) [
      | orders.Less ↦ λ p q. cc
      | orders.Equal ↦ λ p q. group_cmp-IsAntisymmetric g h p
      | orders.Greater ↦ λ p q. cc
    ] refl e

-- a group below all others isn't among them
below-none : (g : Group) (groups : List Grouped) → AllByRecursion (λ h. group_cmp g h ≡ Less) (keys_of groups) → lookup (is_at (group_cmp g)) groups ≡ None
below-none g [] below = refl
below-none g (e ∷ groups) below = ap (λ o. cond (is_eq o) (Some e.1) (lookup (is_at (group_cmp g)) groups)) below.0 ∙ below-none g groups below.1

-- what is found of a group among the later ones is found among all
found-later : (g : Group) (e : Grouped) (groups : List Grouped) (runs : List RunView) → AllByRecursion (λ h. group_cmp e.0 h ≡ Less) (keys_of groups) → lookup (is_at (group_cmp g)) groups ≡ Some runs
    → lookup (is_at (group_cmp g)) (e ∷ groups) ≡ Some runs
found-later g e groups runs below found =
    elim (is_at (group_cmp g) e.0) as (λ b. is_at (group_cmp g) e.0 ≡ b → cond b (Some e.1) (lookup (is_at (group_cmp g)) groups) ≡ Some runs) [
      | true ↦ λ at.
          let none : lookup (is_at (group_cmp g)) groups ≡ None = subst (λ h. lookup (is_at (group_cmp h)) groups ≡ None) (sym (at-one g e.0 at)) (below-none e.0 groups below) in
          cc
      | false ↦ λ at. found
    ] refl

-- each of groups that rise is found
pub each-found : (P : Group → List RunView → Type 0) (groups : List Grouped) → IsStrictlySortedBy group_cmp (keys_of groups)
    → ((g : Group) (runs : List RunView) → lookup (is_at (group_cmp g)) groups ≡ Some runs → P g runs) → AllByRecursion (λ (e : Grouped). P e.0 e.1) groups
unfolding IsStrictlySortedBy
each-found P [] rising own = tt
each-found P (e ∷ groups) rising own = (
  own e.0 e.1 (ap (λ o. cond (is_eq o) (Some e.1) (lookup (is_at (group_cmp e.0)) groups)) (tied_itself group_total e.0)),
  each-found P groups rising.1 (λ g runs found. own g runs (found-later g e groups runs rising.0 found)),
)

-- a group has its runs, at least one
abbrev pub HasOwn : Live → Grouped → Type 0
HasOwn live e = AreRunsOf live e.0 e.1 × (e.1 ≢ [])

pub each-own : (live : Live) (groups : List Grouped) → IsStrictlySortedBy group_cmp (keys_of groups)
    → ((g : Group) (runs : List RunView) → lookup (is_at (group_cmp g)) groups ≡ Some runs → HasOwn live (g, runs)) → AllByRecursion (HasOwn live) groups
each-own live groups rising own = each-found (λ g runs. HasOwn live (g, runs)) groups rising own

-- they were there
unfoldable pub has-runs : OneRuns → (f : Files) (s : TableSchema) (entries : List Entry) (id : ℕ) (live : Live) (e : Grouped) → (has : HasGroup f s entries id live e.0) → HasOwn live e → HasRuns f s e
has-runs one f s entries id live e has own =
    let same : has.runs ≡ e.1 = one live e.0 has.runs e.1 has.own own.0 in record {
      some = own.1;
      each = own.0.made.each;
      stored = has.stored;
      read = subst (λ (runs : List RunView). AllZip (HasRun f s e.0) runs has.stored) same has.read;
    }

-- ---- the live files of a snapshot

one-snapshot : (f : Files) (id : ℕ) (x y : Snapshot) → SnapshotAt f id x → SnapshotAt f id y → x ≡ y
one-snapshot f id x y a b =
    let found : Some a.0 ≡ Some b.0 = sym a.1 ∙ b.1 in
    let same : a.0 ≡ b.0 = cc in
    let both : Ok x ≡ Ok y = sym a.2 ∙ ap (snapshot_in id) same ∙ b.2 in
    cc

-- those that the entries of its lists leave are those that it was committed with
pub same-live : OneContents → (f : Files) (s : TableSchema) (entries : List Entry) (id : ℕ) (x : Snapshot) (base delta : List ManifestMeta) (es : List files.Entry) (live : Live)
    → (committed : IsCommitted f s entries id) → SnapshotAt f id x → HasEntries f s x base delta es → Leaves none_live es live → live_in committed.contents ≡ live
same-live one f s entries id x base delta es live committed there has left =
    let same : x ≡ committed.snapshot = one-snapshot f id x committed.snapshot there committed.there in
    let own : HasEntries f s committed.snapshot base delta es = subst (λ y. HasEntries f s y base delta es) same has in
    let c : Contents = record { base = base; delta = delta; entries = es; changelog = committed.contents.changelog; changes = committed.contents.changes } in
    let all : HasContents f s committed.snapshot c = record { table = own; changelog = committed.has.changelog } in
    let equal : committed.contents ≡ c = one f s committed.snapshot committed.contents c committed.has all in
    let each : live_after none_live es ≡ live = λ i k. sym (left k) i in
    ap live_in equal ∙ each

-- ---- the files of a view are named

module _ (s : TableSchema) (live : Live) where
  -- a file is that of an entry that is live
  abbrev IsOfLive : Group → FileMeta → Type 0
  IsOfLive g m = (e : files.Entry) × IsLive live e × (e.group ≡ g) × (e.file ≡ m)

  abbrev IsAtLive : Job → Type 0
  IsAtLive job = (e : files.Entry) × IsLive live e × (data_path s e.group e.file.name ≡ job.path)

  file-at : (g : Group) (m : FileMeta) → IsOfLive g m → (e : files.Entry) × IsLive live e × (data_path s e.group e.file.name ≡ data_path s g m.name)
  file-at g m of = (of.0, of.1, λ i. data_path s (of.2 i) (of.3 i).name)

  files-at : (g : Group) (end : Ends) (ms : List FileMeta) → AllByRecursion (IsOfLive g) ms → AllByRecursion IsAtLive (file_jobs s g end ms)
  files-at g end [] of = tt
  files-at g end (m ∷ []) of = (file-at g m of.0, tt)
  files-at g end (m ∷ n ∷ ms) of = (file-at g m of.0, files-at g end (n ∷ ms) of.1)

  runs-at : (g : Group) (runs : List RunView) → AllByRecursion (IsOfLive g) (files_of runs) → AllByRecursion IsAtLive (run_jobs s g runs)
  runs-at g [] of = tt
  runs-at g (run ∷ []) of = files-at g ends.Group run.files (all-parts (IsOfLive g) run.files [] of).0
  runs-at g (run ∷ older ∷ runs) of =
      let parts = all-parts (IsOfLive g) run.files (files_of (older ∷ runs)) of in
      all-joined IsAtLive (file_jobs s g ends.Run run.files) (run_jobs s g (older ∷ runs)) (files-at g ends.Run run.files parts.0) (runs-at g (older ∷ runs) parts.1)

  of-live : (g : Group) (runs : List RunView) → AreRunsOf live g runs → AllByRecursion (IsOfLive g) (files_of runs)
  of-live g runs are =
      recursion_from_All (IsOfLive g) (files_of runs) (All-weaker (Contains (files_of runs)) (IsOfLive g)
      (λ m here. (are.own.exact m).0 (Contains-permutation (files_of runs) are.files m (IsPermutation-sym are.files (files_of runs) are.made.whole) here))
      (files_of runs) (All-contains_itself (files_of runs)))

  group-at : (e : Grouped) → HasOwn live e → AllByRecursion IsAtLive (run_jobs s e.0 e.1)
  group-at e own = runs-at e.0 e.1 (of-live e.0 e.1 own.0)

pub all-weaker : {X : Type 0} (P Q : X → Type 0) (xs : List X) → ((x : X) → P x → Q x) → AllByRecursion P xs → AllByRecursion Q xs
all-weaker P Q [] weaker all = tt
all-weaker P Q (x ∷ xs) weaker all = (weaker x all.0, all-weaker P Q xs weaker all.1)

-- each of them is one that the snapshot needs
needed : OneContents → (f : Files) (s : TableSchema) (entries : List Entry) (id : ℕ) (x : Snapshot) (base delta : List ManifestMeta) (es : List files.Entry) (live : Live)
    → IsCommitted f s entries id → SnapshotAt f id x → HasEntries f s x base delta es → Leaves none_live es live → (e : Grouped) → HasOwn live e
    → AllByRecursion (λ (job : Job). Needs f s id job.path) (run_jobs s e.0 e.1)
needed one f s entries id x base delta es live committed there has left e own =
    all-weaker (IsAtLive s live) (λ (job : Job). Needs f s id job.path) (run_jobs s e.0 e.1) at (group-at s live e own)
  where
    at : (job : Job) → IsAtLive s live job → Needs f s id job.path
    at job here =
        let same = same-live one f s entries id x base delta es live committed there has left in
        let alive : IsLive (live_in committed.contents) here.0 = subst (λ l. IsLive l here.0) (sym same) here.1 in
        inr (inr (committed.snapshot, committed.contents, (committed.there, committed.has), subst (IsNamed s committed.snapshot committed.contents) here.2 (data_file here.0 alive)))

-- ---- what is known of a table

-- a table with this schema, and the snapshots as they were committed
pub record IsOfTable (p : Past) (s : TableSchema) : Type 0 where
  pub entries : List Entry
  pub is_table : p.history ≡ table s entries
  pub committed : (id : ℕ) → IsKnown p id → IsCommitted (p.stood id) s (take id entries) id

pub of-table : (f : Files) (p : Past) (s : TableSchema) → Stands f p → IsTableOf s p.history → IsOfTable p s
of-table f p s stands is = by_history p.history refl stands.past is
  where
    by_history : (h : History) → p.history ≡ h → KnowsPast f h p → IsTableOf s h → IsOfTable p s
    by_history no_table same past is = absurd is
    by_history (table t entries) same past is = subst (IsOfTable p) is (record { entries = entries; is_table = same; committed = past.committed })

-- ---- what is known of a view

-- the view is that of a snapshot as it was committed
pub record IsOfSnapshot (p : Past) (v : View) : Type 0 where
  pub snapshot : Snapshot
  pub base : List ManifestMeta
  pub delta : List ManifestMeta
  pub es : List files.Entry
  pub live : Live
  pub known : IsKnown p v.id
  pub there : SnapshotAt (p.stood v.id) v.id snapshot
  pub has : HasEntries (p.stood v.id) v.schema snapshot base delta es
  pub left : Leaves none_live es live
  pub groups : (g : Group) → GroupRuns live g (lookup (is_at (group_cmp g)) v.groups.entries)

pub of-snapshot : (p : Past) (v : View) (x : Snapshot) (base delta : List ManifestMeta) (es : List files.Entry) (live : Live) → Stood p v.schema x → HasEntries (p.stood x.id) v.schema x base delta es → Leaves none_live es live
    → IsViewOf v.schema x (base ++ delta) (kept_for v.wanted es) live v → IsOfSnapshot p v
of-snapshot p v x base delta es live stood has left of =
    let id : x.id ≡ v.id = sym of.id in
    record {
      snapshot = x;
      base = base;
      delta = delta;
      es = es;
      live = live;
      known = subst (IsKnown p) id stood.known;
      there = subst (λ k. SnapshotAt (p.stood k) k x) id stood.was;
      has = subst (λ k. HasEntries (p.stood k) v.schema x base delta es) id has;
      left = left;
      groups = of.groups;
    }

-- ---- a group of a view stood when it was committed

-- a view in which a group is found is that of a snapshot that is known
known-view : (p : Past) (v : View) (g : Group) (runs : List RunView) → IsViewIn p v → runs_at v g ≡ Some runs → IsOfSnapshot p v
known-view p v g runs (view_origin o) found = let no : Some runs ≡ None = sym found ∙ o.groups g in cc
known-view p v g runs (view_snapshot x base delta es live stood has left of) found = of-snapshot p v x base delta es live stood has left of

pub view-stood : OneRuns → OneContents → (f : Files) (p : Past) (v : View) (g : Group) (runs : List RunView) → Stands f p → IsTableView p v → runs_at v g ≡ Some runs
    → IsKnown p v.id × StoodAt p v.schema v.id (whole_group (g, runs))
view-stood one_runs one f p v g runs stands is found =
    let own = known-view p v g runs is.is_view found in
    let s = v.schema in
    let t = of-table f p s stands is.table in
    let committed = t.committed v.id own.known in
    let has : HasOwn own.live (g, runs) = subst (GroupRuns own.live g) found (own.groups g) in
    let group : HasGroup (p.stood v.id) s (take v.id t.entries) v.id own.live g =
    subst (λ (live : Live). HasGroup (p.stood v.id) s (take v.id t.entries) v.id live g)
    (same-live one (p.stood v.id) s (take v.id t.entries) v.id own.snapshot own.base own.delta own.es own.live committed own.there own.has own.left)
    (committed.groups g) in (
      own.known,
      record {
        runs = has-runs one_runs (p.stood v.id) s (take v.id t.entries) v.id own.live (g, runs) group has;
        kept = tt;
        older = ([], tt);
        needed = needed one (p.stood v.id) s (take v.id t.entries) v.id own.snapshot own.base own.delta own.es own.live committed own.there own.has own.left (g, runs) has;
      },
    )
