-- The view that a compactor reads where nobody else acts is that of the newest snapshot as it was at the beginning.
use Rattle.std.proofs.Common.{◌≡◌, ◌≢◌, inl, inr, ℕ, zero, suc, ◌<◌, ◌≤◌, List, [], ◌∷◌, ◌++◌, length, Contains, Option, None, Some, IsSome, IsSomeAnd, refl, sym, ap, ◌∙◌, subst, arith}
use Rattle.std.specs.FinMap as map
use Rattle.std.specs.BTreeMap.{IsOrdered}
use Rattle.std.proofs.lemmas.List.Elements.{Contains-get_or}
use Rattle.std.proofs.lemmas.List.Sorted.{Contains-permutation, IsPermutation-sym}
use Rattle.pm_values.specs.GroupOrder.{group_cmp}
use Rattle.pm_values.specs.declared.file_meta.FileMeta.{FileMeta}
use Rattle.pm_values.specs.declared.group.Group.{Group}
use Rattle.pm_store.specs.Files.{Files}
use Rattle.pm_model_history.specs.History.{IsTableOf}
use Rattle.pm_schema.specs.declared.schema.TableSchema.{TableSchema}
use Rattle.pm_snapshot.specs.declared.snapshot.Snapshot.{Snapshot}
use Rattle.pm_levels.specs.Runs.{RunView, files_of}
use Rattle.pm_manifest.specs.Live.{Leaves, Live}
use Rattle.pm_manifest.specs.declared.entry.Entry as files
use Rattle.pm_manifest.specs.declared.entry.ManifestMeta.{ManifestMeta}
use Rattle.pm_model_contents.specs.Groups.{GroupRuns}
use Rattle.pm_model_contents.specs.Lists.{HasEntries, none_live}
use Rattle.pm_model_contents.specs.Named.{Contents, HasContents}
use Rattle.pm_model_contents.specs.Runs.{AreRunsOf, IsLive}
use Rattle.pm_model_folder.specs.Commits.{HasCommit, live_in}
use Rattle.pm_model_folder.specs.Ledger.{Past, Stands, count_of}
use Rattle.pm_model_folder.specs.Meaning.{HasSnapshotAt}
use Rattle.pm_model_folder.specs.Paths.{snapshot_path}
use Rattle.pm_model_folder.specs.Runs.{AreRunsAt}
use Rattle.pm_model_folder.proofs.HoldLemmas.{SameContents, one-snapshot}
use Rattle.pm_model_folder.proofs.LedgerFacts.{at-table}
use Rattle.pm_read_table.specs.Meaning.{IsViewIn, Stood, view_origin, view_snapshot}
use Rattle.pm_read_table.specs.View.{IsViewOf, kept_for, runs_at}
use Rattle.pm_read_table.specs.declared.asked.Wanted.TheVariants as wants
use Rattle.pm_read_table.specs.declared.view.View.{View}
use Rattle.pm_read_table.proofs.Facts.{stood_contents}
use Rattle.pm_group_files.proofs.ViewLemmas.{OneContents, OneRuns}
use Rattle.pm_made.specs.Commit.{IsFoundAs}
use Rattle.pm_commit.specs.Committer.{found_in, newest_in}
use Rattle.pm_commit.specs.Meaning.{IsFoundIn}
use Rattle.pm_commit.proofs.FoundLemmas.{LiveEntries, found-same, found-there}
use Rattle.pm_commit.proofs.NewestLemmas.{newest-at}
use Rattle.pm_compactor.specs.AllCalls.{Beginning, HaveRunsOf, IsNewestView, newest_id}
use Rattle.pm_compactor.specs.Alone.{IsStill}

-- ---- groups without live files

-- a group without a live file has no runs
no-runs : (live : Live) (g : Group) (runs : List RunView) → AreRunsOf live g runs → ((e : files.Entry) → IsLive live e → e.group ≡ g → ⊥) → runs ≡ []
no-runs live g [] are none = refl
no-runs live g (run ∷ runs) are none =
    absurd (by_files run.files are.made.each.0.some
    (λ m here. are-none m (Contains-permutation (files_of (run ∷ runs)) are.files m (IsPermutation-sym are.files (files_of (run ∷ runs)) are.made.whole) here)))
  where
    are-none : (m : FileMeta) → Contains are.files m → ⊥
    are-none m has = let live-one = (are.own.exact m).0 has in none live-one.0 live-one.1 live-one.2

    by_files : (ms : List FileMeta) → 0 < length ms → ((m : FileMeta) → Contains (ms ++ files_of runs) m → ⊥) → ⊥
    by_files [] some none-in = let no : 0 < 0 = some in omega arith
    by_files (m ∷ ms) some none-in = none-in m (Contains-get_or (m ∷ (ms ++ files_of runs)) 0 m (omega arith))

-- ---- a snapshot after the origin

at-later : (f : Files) (s : TableSchema) (id : ℕ) (g : Group) (runs : List RunView) (x : Snapshot) (c : Contents) → 1 ≤ id → HasCommit f s id x c
    → AreRunsOf (live_in c) g runs → AreRunsAt f s id g runs
at-later f s zero g runs x c some commit own = absurd (omega (arith, some))
at-later f s (suc id) g runs x c some commit own = (x, c, commit, own)

record AreThere (f : Files) (s : TableSchema) (id : ℕ) (g : Group) (runs : List RunView) : Type 0 where
  snapshot : Snapshot
  contents : Contents
  commit : HasCommit f s id snapshot contents
  own : AreRunsOf (live_in contents) g runs

later-there : (f : Files) (s : TableSchema) (id : ℕ) (g : Group) (runs : List RunView) → 1 ≤ id → AreRunsAt f s id g runs → AreThere f s id g runs
later-there f s zero g runs some are = absurd (omega (arith, some))
later-there f s (suc id) g runs some (x, c, commit, own) = record { snapshot = x; contents = c; commit = commit; own = own }

-- the same where no path has another content
commit-same : SameContents → (f g : Files) (s : TableSchema) (id : ℕ) (x : Snapshot) (c : Contents) → ((path : List ℕ) → map.get g path ≡ map.get f path)
    → HasCommit f s id x c → HasCommit g s id x c
commit-same law f g s id x c same ((bytes, there, reads), has) = ((bytes, same (snapshot_path id) ∙ there, reads), law f g s x c (λ path named. same path) has)

origin-some : (o : Option (List ℕ)) (P : List ℕ → Type 0) → IsSomeAnd o P → IsSome o
origin-some None P none = absurd none
origin-some (Some x) P has = refl

-- what laws of the files say
pub record SeenLaws : Type 0 where
  pub one : OneContents
  pub runs : OneRuns
  pub same : SameContents
  pub live : LiveEntries

module _ (laws : SeenLaws) (b : Beginning) (f : Files) (p : Past) (stands : Stands f p) (still : IsStill b f p) (v : View)
    (table : IsTableOf v.schema p.history) (newest : v.id ≡ newest_id b) where
  many : v.id ≡ count_of p.history
  many = newest ∙ ap count_of (sym still.same)

  there : HasSnapshotAt f v.schema v.id
  there = subst (HasSnapshotAt f v.schema) (sym many) (newest-at f p v.schema stands table)

  origin : v.id ≡ 0 → IsSome v.schema.origin
  origin first = origin-some v.schema.origin _ (subst (HasSnapshotAt f v.schema) first there)

  pub is-found : IsViewIn p v → v.wanted ≡ wants.Entries → IsFoundIn p (found_in v)
  is-found stood wanted = record { view = v; is = refl; wanted = wanted; stood = stood; origin = origin }

  -- it was found so at the beginning
  found-first : IsViewIn p v → v.wanted ≡ wants.Entries → IsFoundAs b.files v.schema (newest_in v) v.snapshot
  found-first stood wanted =
      found-same laws.same f b.files v.schema (newest_in v) v.snapshot (λ path. sym (still.unchanged path))
      (found-there laws.same laws.live f p (found_in v) stands (is-found stood wanted) there)

  -- ---- its groups

  module _ (x : Snapshot) (base delta : List ManifestMeta) (entries : List files.Entry) (live : Live) (stood : Stood p v.schema x)
      (has : HasEntries (p.stood x.id) v.schema x base delta entries) (left : Leaves none_live entries live)
      (is : IsViewOf v.schema x (base ++ delta) (kept_for v.wanted entries) live v) where
    c0 : (c : Contents) × HasContents (p.stood x.id) v.schema x c
    c0 = stood_contents f p v.schema x stands stood

    abbrev c : Contents
    c = record { base = base; delta = delta; entries = entries; changelog = c0.0.changelog; changes = c0.0.changes }

    contents : HasContents (p.stood x.id) v.schema x c
    contents = record { table = has; changelog = c0.1.changelog }

    commit-now : HasCommit f v.schema x.id x c
    commit-now =
        let kept = ((at-table f p v.schema stands stood.table).3.kept x.id stood.known).there (subst (HasSnapshotAt f v.schema) is.id there) in (
          (stood.was.0, kept (snapshot_path x.id) (inl refl) ∙ stood.was.1, stood.was.2),
          laws.same (p.stood x.id) f v.schema x c (λ path named. kept path (inr (inr (x, c, (stood.was, contents), named)))) contents,
        )

    commit-first : HasCommit b.files v.schema v.id x c
    commit-first =
        subst (λ (n : ℕ). HasCommit b.files v.schema n x c) (sym is.id)
        (commit-same laws.same f b.files v.schema x.id x c (λ path. sym (still.unchanged path)) commit-now)

    some-id : 1 ≤ v.id
    some-id = subst (λ (n : ℕ). 1 ≤ n) (sym is.id) stood.known.after_origin

    live-is : live_in c ≡ live
    live-is = λ i k. sym (left k) i

    runs-to : (g : Group) (runs : List RunView) → runs_at v g ≡ Some runs → (runs ≢ []) × AreRunsAt b.files v.schema v.id g runs
    runs-to g runs at =
        let own : GroupRuns live g (Some runs) = subst (GroupRuns live g) at (is.groups g) in
        (own.1, at-later b.files v.schema v.id g runs x c some-id commit-first (subst (λ (l : Live). AreRunsOf l g runs) (sym live-is) own.0))

    runs-from : (g : Group) (runs : List RunView) → runs ≢ [] → AreRunsAt b.files v.schema v.id g runs → runs_at v g ≡ Some runs
    runs-from g runs some are = by (runs_at v g) (is.groups g)
      where
        at : AreThere b.files v.schema v.id g runs
        at = later-there b.files v.schema v.id g runs some-id are

        same-commit : at.contents ≡ c
        same-commit =
            let one : at.snapshot ≡ x = one-snapshot b.files v.id at.snapshot x at.commit.0 commit-first.0 in
            laws.one b.files v.schema x at.contents c (subst (λ (y : Snapshot). HasContents b.files v.schema y at.contents) one at.commit.1) commit-first.1

        own : AreRunsOf live g runs
        own = subst (λ (l : Live). AreRunsOf l g runs) (ap live_in same-commit ∙ live-is) at.own

        by : (o : Option (List RunView)) → GroupRuns live g o → o ≡ Some runs
        by None none = absurd (some (no-runs live g runs own none))
        by (Some others) (are, more) = ap (λ (runs : List RunView). Some runs) (laws.runs live g others runs are own)

  runs-first : IsViewIn p v → HaveRunsOf b.files v
  runs-first (view_origin is) = λ g runs. (
    λ at. absurd (let clash : Some runs ≡ None = sym at ∙ is.groups g in cc),
    λ has. absurd (has.0 (subst (λ (n : ℕ). AreRunsAt b.files v.schema n g runs) is.id has.1)),
  )
  runs-first (view_snapshot x base delta entries live stood has left is) = λ g runs. (
    λ at. runs-to x base delta entries live stood has left is g runs at,
    λ has_runs. runs-from x base delta entries live stood has left is g runs has_runs.0 has_runs.1,
  )

  ordered : IsViewIn p v → IsOrdered group_cmp v.groups
  ordered (view_origin is) = is.order
  ordered (view_snapshot x base delta entries live stood has left is) = is.order

  pub newest-view : IsViewIn p v → v.wanted ≡ wants.Entries → IsNewestView b v
  newest-view stood wanted = record {
    table = subst (IsTableOf v.schema) still.same table;
    newest = record { id = newest; found = found-first stood wanted };
    ordered = ordered stood;
    runs = runs-first stood;
  }
