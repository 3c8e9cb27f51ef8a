-- The newest snapshot, as a commit found it.
use Rattle.std.proofs.Common.{◌≡◌, ℕ, ℤ, pos, negsuc, zero, suc, ◌+◌, ◌≤◌, ◌<ℤ◌, ◌≤ℤ◌, List, [], ◌∷◌, ◌++◌, length, Option, None, Some, IsSome, Contains, Ok, inl, refl, sym, ap, subst, ◌∙◌, arith}
use Rattle.std.specs.FinMap as finite
use Rattle.std.proofs.lemmas.Int.{ints}
use Rattle.std.proofs.lemmas.List.{take_all}
use Rattle.std.proofs.lemmas.List.Sorted.{IsPermutation-refl, length_permutation}
use Rattle.pm_store.specs.Files.{Files, Puts}
use Rattle.pm_values.specs.declared.file_meta.FileMeta.{FileMeta}
use Rattle.pm_values.specs.declared.group.Group.{Group}
use Rattle.pm_model_history.specs.History.{Entry}
use Rattle.pm_schema.specs.declared.schema.TableSchema.{TableSchema}
use Rattle.pm_snapshot.specs.Snapshot.{IsConsistent, snapshot_in}
use Rattle.pm_snapshot.specs.declared.snapshot.Snapshot.{Snapshot}
use Rattle.pm_levels.specs.Runs.{AreTwoOf, RunView}
use Rattle.pm_manifest.specs.Live.{AreInOrder, live_after}
use Rattle.pm_manifest.specs.declared.entry.Entry as files
use Rattle.pm_manifest.specs.declared.entry.ManifestMeta.{ManifestMeta}
use Rattle.pm_model_contents.specs.Lists.{HaveEntries, manifest_path, none_live}
use Rattle.pm_model_contents.specs.Named as named
use Rattle.pm_model_contents.specs.Named.{Contents}
use Rattle.pm_model_contents.specs.Runs.{AreRunsOf, IsLive, data_path}
use Rattle.pm_model_folder.specs.Commits.{HasCommit, IsCommitted, Names, live_in}
use Rattle.pm_model_folder.specs.Entries.{AreLive, fence_at}
use Rattle.pm_model_folder.specs.Folder.{HasTable, IsFrom}
use Rattle.pm_model_folder.specs.Meaning.{HasSnapshotAt, SnapshotAt}
use Rattle.pm_model_folder.specs.Paths.{snapshot_path}
use Rattle.pm_model_folder.specs.Runs.{AreRunsAt}
use Rattle.pm_model_folder.specs.Stored.{HasGroup}
use Rattle.pm_model_folder.proofs.Facts.{there-absent}
use Rattle.pm_model_folder.proofs.HoldLemmas.{ContentsStay, Holds, OneContents, one-commit, one-snapshot}
use Rattle.pm_model_folder.proofs.RunFacts.{none-stand}
use Rattle.pm_made.specs.Commit.{IsFoundAs}
use Rattle.pm_made.specs.Refusals.{fence_of}
use Rattle.pm_made.specs.Snapshot.{appends_of, full_of}
use Rattle.pm_made.specs.declared.newest.Newest.{Newest}
use Rattle.pm_made.proofs.ListLemmas.{none-in}

-- what the laws of lower crates say of snapshots
pub record SnapshotFacts : Type 0 where
  pub one_contents : OneContents
  pub contents_stay : ContentsStay
  pub consistent : (id : ℕ) (text : List ℕ) (x : Snapshot) → snapshot_in id text ≡ Ok x → IsConsistent x
  pub bears : (id : ℕ) (text : List ℕ) (x : Snapshot) → snapshot_in id text ≡ Ok x → x.id ≡ id

-- what is there stays where a snapshot appears
pub puts-holds : (f after : Files) (path : List ℕ) (content : Option (List ℕ)) → finite.get f path ≡ None → Puts f path content after → Holds f after
puts-holds f after path content absent puts q there = puts.others q (there-absent f q path there absent)

some-no : {X : Type 0} (x : X) → None ≡ Some x → ⊥
some-no x is = cc

pub no-entries : (entries : List Entry) → length entries ≡ 0 → entries ≡ []
no-entries [] none = refl
no-entries (e ∷ entries) none = absurd (omega (arith, none))

two-none : (a b : FileMeta) → AreTwoOf a b [] → ⊥
two-none a b two = let long = length_permutation [] (a ∷ b ∷ two.0) two.1 in omega (arith, long)

abbrev no-runs : (g : Group) → AreRunsOf none_live g []
no-runs g = record {
  files = [];
  own = record { exact = λ m. (λ h. absurd (none-in m h), λ o. absurd (some-no o.0 o.1)); apart = λ a b two level. absurd (two-none a b two) };
  made = record { whole = IsPermutation-refl []; order = λ k d from within. absurd (omega (arith, within)); each = tt; levels = tt };
  disjoint = λ a b two meet. two-none a b two;
}

-- a fence that is below an id is below a later one
fence-later : (z : ℤ) (a b : ℕ) → z <ℤ pos a → a ≤ b → z <ℤ pos b
fence-later z a b below more = grind (arith, ints)

-- how the numbers of the newest snapshot bound those of the next
pub record Bounds (o : Option Snapshot) (id : ℕ) : Type 0 where
  pub least : negsuc 0 ≤ℤ fence_of o
  pub below : fence_of o <ℤ pos (id + 1)
  pub appends : appends_of o ≤ id
  pub full : full_of o ≤ appends_of o

module _ (facts : SnapshotFacts) (f : Files) (s : TableSchema) (entries : List Entry) (folder : HasTable f s entries) (newest : Newest)
    (is_id : newest.id ≡ length entries) where
  abbrev n : ℕ
  n = length entries

  -- what its files have, and what it names
  pub record Old (o : Option Snapshot) : Type 0 where
    pub entries0 : List files.Entry
    pub have : HaveEntries f s newest.manifests.items entries0
    pub order : AreInOrder none_live entries0
    pub live : AreLive (live_after none_live entries0) newest.live.items
    pub fence : fence_of o ≡ fence_at entries n
    pub no_appends : n ≡ 0 → appends_of o ≡ 0
    pub appends : (z : Snapshot) → 1 ≤ n → SnapshotAt f n z → appends_of o ≡ z.appends
    pub manifest_named : (meta : ManifestMeta) → Contains newest.manifests.items meta → (1 ≤ n) × Names f s n (manifest_path meta.name)
    pub data_named : (e : files.Entry) → IsLive (live_after none_live entries0) e → (1 ≤ n) × Names f s n (data_path s e.group e.file.name)
    pub groups : (g : Group) → HasGroup f s entries n (live_after none_live entries0) g
    pub runs_at : (g : Group) (runs : List RunView) → AreRunsAt f s n g runs → AreRunsOf (live_after none_live entries0) g runs
    pub bounds : Bounds o newest.id

  -- the origin
  old-none : newest.id ≡ 0 → newest.manifests.items ≡ [] → newest.live.items ≡ [] → Old None
  old-none zero_id no_manifests no_live = record {
    entries0 = [];
    have = subst (λ (metas : List ManifestMeta). HaveEntries f s metas []) (sym no_manifests) refl;
    order = λ i e is. absurd (some-no e is);
    live = subst (AreLive none_live) (sym no_live) (record {
      exact = λ e. (λ h. absurd (none-in e h), λ is. absurd (some-no e is));
      apart = λ i j d less within. absurd (omega (arith, within));
    });
    fence = subst (λ (es : List Entry). fence_of None ≡ fence_at es (length es)) (sym empty_history) refl;
    no_appends = λ _. refl;
    appends = λ z some at. absurd (omega (arith, some, is_id, zero_id));
    manifest_named = λ meta h. absurd (none-in meta (subst (λ (metas : List ManifestMeta). Contains metas meta) no_manifests h));
    data_named = λ e is. absurd (some-no e is);
    groups = λ g. subst (λ (es : List Entry). HasGroup f s es (length es) none_live g) (sym empty_history) (record {
      runs = [];
      own = no-runs g;
      within = tt;
      numbered = λ a b two low high. absurd (two-none a b two);
      stored = [];
      read = tt;
      stand = none-stand s g;
    });
    runs_at = λ g runs at. subst (AreRunsOf none_live g) (sym (subst (λ (k : ℕ). AreRunsAt f s k g runs) none at)) (no-runs g);
    bounds = record { least = omega arith; below = omega arith; appends = omega arith; full = omega arith };
  }
    where
      none : n ≡ 0
      none = sym is_id ∙ zero_id

      empty_history : entries ≡ []
      empty_history = no-entries entries none

  -- a snapshot after it
  module _ (x : Snapshot) (c : Contents) (commit : HasCommit f s newest.id x c) (are : newest.manifests.items ≡ c.base ++ c.delta)
      (live : AreLive (live_in c) newest.live.items) where
    at_n : HasCommit f s n x c
    at_n = subst (λ (k : ℕ). HasCommit f s k x c) is_id commit

    own_id : x.id ≡ n
    own_id = facts.bears n at_n.0.0 x at_n.0.2

    consistent : IsConsistent x
    consistent = facts.consistent n at_n.0.0 x at_n.0.2

    some : 1 ≤ n
    some = let below = consistent.base_below in omega (arith, below, own_id)

    there : HasSnapshotAt f s n
    there = at n refl
      where
        at : (k : ℕ) → n ≡ k → HasSnapshotAt f s k
        at zero none = absurd (omega (arith, some, none))
        at (suc k) is = subst (λ (o : Option (List ℕ)). IsSome o) (sym (ap (λ (k : ℕ). finite.get f (snapshot_path k)) (sym is) ∙ at_n.0.1)) refl

    from : IsFrom folder.snapshots.least n n
    from = record {
      after_origin = some;
      from = ((folder.snapshots.exact n folder.snapshots.within).0 there).0;
      to = omega arith;
    }

    own : IsCommitted f s entries n
    own = subst (λ (es : List Entry). IsCommitted f s es n) (take_all n entries (omega arith)) (folder.commits.committed n from)

    same : (own.snapshot ≡ x) × (own.contents ≡ c)
    same = one-commit facts.one_contents f s n own.snapshot x own.contents c (own.there, own.has) at_n

    old-some : Old (Some x)
    old-some = record {
      entries0 = c.entries;
      have = subst (λ (metas : List ManifestMeta). HaveEntries f s metas c.entries) (sym are) at_n.1.table.have;
      order = at_n.1.table.order;
      live = live;
      fence = ap (λ (x : Snapshot). x.fence) (sym same.0) ∙ own.fence;
      no_appends = λ none. absurd (omega (arith, some, none));
      appends = λ z _ at. ap (λ (x : Snapshot). x.appends) (one-snapshot f n x z at_n.0 at);
      manifest_named = λ meta h. (some, (x, c, at_n, named.manifest meta (inl (subst (λ (metas : List ManifestMeta). Contains metas meta) are h))));
      data_named = λ e is. (some, (x, c, at_n, named.data_file e is));
      groups = λ g. subst (λ (c : Contents). HasGroup f s entries n (live_in c) g) same.1 (own.groups g);
      runs_at = λ g runs at. runs-at g runs n refl at;
      bounds = record {
        least = consistent.fence_least;
        below = fence-later x.fence x.id (newest.id + 1) consistent.fence_below (omega (arith, own_id, is_id));
        appends = (let within = consistent.appends_within in omega (arith, within, own_id, is_id));
        full = consistent.full_within;
      };
    }
      where
        runs-at : (g : Group) (runs : List RunView) (k : ℕ) → n ≡ k → AreRunsAt f s k g runs → AreRunsOf (live_after none_live c.entries) g runs
        runs-at g runs zero none at = absurd (omega (arith, some, none))
        runs-at g runs (suc k) is (y, d, other, runs_of) =
            let both = one-commit facts.one_contents f s n y x d c (subst (λ (k : ℕ). HasCommit f s k y d) (sym is) other) at_n in
            subst (λ (d : Contents). AreRunsOf (live_in d) g runs) both.1 runs_of

  pub old-of : (o : Option Snapshot) → IsFoundAs f s newest o → Old o
  old-of None (zero_id, no_manifests, no_live) = old-none zero_id no_manifests no_live
  old-of (Some x) (c, commit, are, live) = old-some x c commit are live
