-- The groups once a commit is published: each has its runs, which follow those before, and they stand for its rows.
use Rattle.std.proofs.Common.{◌≡◌, ◌≢◌, ◌↔◌, ℕ, zero, suc, ◌≤◌, ◌==◌, Bool, true, false, true≢false, if◌then◌else◌, List, [], ◌∷◌, ◌++◌, map, length, length-append, Contains, refl, sym, subst, ◌∙◌, eqb-true, arith}
use Rattle.std.specs.List.{AllByRecursion, AllZip}
use Rattle.std.specs.List.Sorted.{IsPermutation}
use Rattle.std.proofs.lemmas.Bool.{eq-eqb}
use Rattle.std.proofs.lemmas.List.Sorted.{IsPermutation-sym, IsPermutation-trans}
use Rattle.pm_store.specs.Files.{Files}
use Rattle.pm_values.specs.declared.file_meta.FileMeta.{FileMeta}
use Rattle.pm_values.specs.declared.group.Group.{Group}
use Rattle.pm_model_history.specs.History.{Entry, table}
use Rattle.pm_model_following.specs.Following.{HaveBases}
use Rattle.pm_schema.specs.declared.schema.TableSchema.{TableSchema}
use Rattle.pm_levels.specs.Runs.{AreTwoOf, RunView, files_of}
use Rattle.pm_manifest.specs.Live.{Live}
use Rattle.pm_manifest.specs.declared.entry.Entry as files
use Rattle.pm_model_contents.specs.Runs.{AreRunsOf, IsLive, data_path}
use Rattle.pm_runs.specs.Stand.{top_of}
use Rattle.pm_runs.specs.Succession.{AreKnownAt, Follows, IsNew, IsSuccession, KnownRun, without_files}
use Rattle.pm_model_folder.specs.Changes.{Actor, IsNamedBy}
use Rattle.pm_model_folder.specs.Commits.{Names}
use Rattle.pm_model_folder.specs.Ledger.{IsKnown, KnowsTable, Past}
use Rattle.pm_model_folder.specs.Meaning.{HasSnapshotAt}
use Rattle.pm_model_folder.specs.Runs.{AreInFiles, view_of}
use Rattle.pm_model_folder.specs.Stored.{AreNumberedApart, HasGroup, HasRun}
use Rattle.pm_model_folder.proofs.HoldLemmas.{SameContents}
use Rattle.pm_model_folder.proofs.LedgerFacts.{count-is}
use Rattle.pm_model_folder.proofs.RunFacts.{file-named, in-files-same, in-none, origin-none, origin-runs}

-- a succession goes on by what follows
abbrev pub SuccessionGoesOn : Type 0
SuccessionGoesOn = (s : TableSchema) (g : Group) (entries : List Entry) (since : ℕ) (runs later : ℕ → List KnownRun) (e : Entry)
    → IsSuccession s g entries since runs → since ≤ length entries → 1 ≤ top_of s → HaveBases 1 (entries ++ e ∷ [])
    → ((n : ℕ) → n ≤ length entries → later n ≡ runs n) → Follows s g since runs (length entries) e (later (suc (length entries)))
    → IsSuccession s g (entries ++ e ∷ []) since later

-- a group's runs after the entry: they are live, hold their rows, are numbered apart, and follow those before
pub record GroupAfter (after : Files) (s : TableSchema) (entries : List Entry) (e : Entry) (p : Past) (live : Live) (g : Group) : Type 0 where
  pub runs : List KnownRun
  pub own : AreRunsOf live g (map view_of runs)
  pub numbered : AreNumberedApart own.files
  pub hold : AllByRecursion (λ (run : KnownRun). HasRun after s g (view_of run) (without_files run)) runs
  pub follow : Follows s g p.since (λ n. p.runs n g) (length entries) e runs

at-other : {A : Type 0} (f g : A) (id n : ℕ) → id ≢ n → (if id == n then f else g) ≡ g
at-other f g id n other = by_test (id == n) refl
  where
    by_test : (b : Bool) → (id == n) ≡ b → (if b then f else g) ≡ g
    by_test true same = absurd (other (eqb-true id n same))
    by_test false differ = refl

at-same : {A : Type 0} (f g : A) (n : ℕ) → (if n == n then f else g) ≡ f
at-same f g n = by_test (n == n) refl
  where
    by_test : (b : Bool) → (n == n) ≡ b → (if b then f else g) ≡ f
    by_test true same = refl
    by_test false differ = absurd (true≢false (sym (eq-eqb n n refl) ∙ differ))

zip-held : (f : Files) (s : TableSchema) (g : Group) (runs : List KnownRun) → AllByRecursion (λ (run : KnownRun). HasRun f s g (view_of run) (without_files run)) runs
    → AllZip (HasRun f s g) (map view_of runs) (map without_files runs)
zip-held f s g [] all = tt
zip-held f s g (r ∷ runs) all = (all.0, zip-held f s g runs all.1)

levels-viewed : (top : ℕ) (runs : List KnownRun) → AllByRecursion (λ (r : KnownRun). r.level ≤ top) runs → AllByRecursion (λ (r : RunView). r.level ≤ top) (map view_of runs)
levels-viewed top [] all = tt
levels-viewed top (r ∷ runs) all = (all.0, levels-viewed top runs all.1)

-- ---- numbers

pub two-moved : (a b : FileMeta) (xs ys : List FileMeta) → IsPermutation xs ys → AreTwoOf a b xs → AreTwoOf a b ys
two-moved a b xs ys same two = (two.0, IsPermutation-trans ys xs (a ∷ b ∷ two.0) (IsPermutation-sym xs ys same) two.1)

-- the live files of a group are the runs of one list
abbrev pub OneRuns : Type 0
OneRuns = (live : Live) (g : Group) (runs others : List RunView) → AreRunsOf live g runs → AreRunsOf live g others → runs ≡ others

-- so files that are numbered apart are so whatever list of runs they are in
pub numbered-too : OneRuns → (live : Live) (g : Group) (runs others : List RunView) (own : AreRunsOf live g runs) (other : AreRunsOf live g others)
    → AreNumberedApart own.files → AreNumberedApart other.files
numbered-too one live g runs others own other numbered a b two =
    let same : runs ≡ others = one live g runs others own other in
    let moved : IsPermutation other.files own.files =
    IsPermutation-trans other.files (files_of others) own.files other.made.whole
    (subst (λ (rs : List RunView). IsPermutation (files_of rs) own.files) same (IsPermutation-sym own.files (files_of runs) own.made.whole)) in
    numbered a b (two-moved a b other.files own.files moved two)

-- where no file of the group came or went its runs are the same
abbrev pub same-runs : (live after : Live) (g : Group) (runs : List RunView) → ((e : files.Entry) → e.group ≡ g → IsLive after e ↔ IsLive live e)
    → AreRunsOf live g runs → AreRunsOf after g runs
same-runs live after g runs same are = record {
  files = are.files;
  own = record {
    exact = λ m. (
      λ h. (let o = (are.own.exact m).0 h in (o.0, (same o.0 o.2).1 o.1, o.2, o.3)),
      λ o. (are.own.exact m).1 (o.0, (same o.0 o.2).0 o.1, o.2, o.3),
    );
    apart = are.own.apart;
  };
  made = are.made;
  disjoint = are.disjoint;
}

-- ---- the newest runs, and a new one

module _ (f : Files) (p : Past) (s : TableSchema) (entries : List Entry) (known : KnowsTable f s entries p) (was : p.history ≡ table s entries) where
  is-known : (k : ℕ) → p.since ≤ suc k → suc k ≤ length entries → IsKnown p (suc k)
  is-known k low high = record {
    after_origin = omega arith;
    from = known.runs.from (suc k) (omega arith) low;
    to = (let many = count-is p s entries was in omega (arith, high, many));
  }

  -- the runs at the newest snapshot are those of its files
  pub newest-runs : SameContents → HasSnapshotAt f s (length entries) → (g : Group) → AreInFiles f s (length entries) g (p.runs (length entries) g)
  newest-runs same newest g = at (length entries) refl
    where
      at : (k : ℕ) → length entries ≡ k → AreInFiles f s (length entries) g (p.runs (length entries) g)
      at zero first =
          subst (λ (k : ℕ). AreInFiles f s k g (p.runs k g)) (sym first)
          (origin-runs f s g (p.runs 0 g) (origin-none (p.runs 0 g) (known.runs.stood 0 g
          (let low = known.runs.since in omega (arith, low, first)) (omega arith)).are))
      at (suc k) last =
          let known_n : IsKnown p (length entries) = subst (IsKnown p) (sym last)
          (is-known k (let low = known.runs.since in omega (arith, low, last)) (omega (arith, last))) in
          in-files-same same (p.stood (length entries)) f s (length entries) g (p.runs (length entries) g)
          (λ path needs. (known.kept (length entries) known_n).there newest path needs) (known.runs.stood (length entries) g known.runs.since (omega arith))

  -- a run of files that an actor named, of which no snapshot names one, is new
  pub new-run : (me : Actor) → ((id : ℕ) (path : List ℕ) → IsKnown p id → Names (p.stood id) s id path → IsNamedBy me path → ⊥) → (g : Group) (run : KnownRun)
      → run.files ≢ [] → ((file : FileMeta) → Contains run.files file → IsNamedBy me (data_path s g file.name)) → IsNew p.since (λ k. p.runs k g) (length entries) run
  new-run me none g run some by = record { some = some; names = at }
    where
      at : (id : ℕ) (other : KnownRun) (a b : FileMeta) → p.since ≤ id → id ≤ length entries → Contains (p.runs id g) other → Contains run.files a
          → Contains other.files b → a.name ≢ b.name
      at zero other a b low high there in_a in_b name =
          in-none other (subst (λ (rs : List KnownRun). Contains rs other) (origin-none (p.runs 0 g) (known.runs.stood 0 g low high).are) there)
      at (suc k) other a b low high there in_a in_b name =
          let named : Names (p.stood (suc k)) s (suc k) (data_path s g b.name) =
          file-named (p.stood (suc k)) s (suc k) g (p.runs (suc k) g) other b (known.runs.stood (suc k) g low high) there in_b in
          none (suc k) (data_path s g b.name) (is-known k low high) named
          (subst (λ (name : List ℕ). IsNamedBy me (data_path s g name)) name (by a in_a))

-- ---- what they stand for

module _ (goes_on : SuccessionGoesOn) (after : Files) (s : TableSchema) (entries : List Entry) (e : Entry) (p : Past) (live : Live) (g : Group)
    (succession : IsSuccession s g entries p.since (λ n. p.runs n g)) (since : p.since ≤ length entries) (high : 1 ≤ top_of s)
    (bases : HaveBases 1 (entries ++ e ∷ [])) (x : GroupAfter after s entries e p live g) where
  abbrev last : ℕ
  last = suc (length entries)

  abbrev later : ℕ → List KnownRun
  later n = if n == suc (length entries) then x.runs else p.runs n g

  is-last : later last ≡ x.runs
  is-last = at-same x.runs (p.runs last g) last

  known : AreKnownAt s g (entries ++ e ∷ []) last x.runs
  known = subst (AreKnownAt s g (entries ++ e ∷ []) last) is-last
      ((goes_on s g entries p.since (λ n. p.runs n g) later e succession since high bases
      (λ n within. at-other x.runs (p.runs n g) n last (λ same. omega (arith, within, same)))
      (subst (Follows s g p.since (λ n. p.runs n g) (length entries) e) (sym is-last) x.follow)).known last (omega (arith, since))
      (let size = length-append entries (e ∷ []) in omega (arith, size)))

  pub group-stands : HasGroup after s (entries ++ e ∷ []) (suc (length entries)) live g
  group-stands = record {
    runs = map view_of x.runs;
    own = x.own;
    within = levels-viewed (top_of s) x.runs known.levels;
    numbered = x.numbered;
    stored = map without_files x.runs;
    read = zip-held after s g x.runs x.hold;
    stand = known.stand;
  }
