-- What was collected of the files of a view covers its rows, so the groups print the scan of the table.
use Rattle.std.proofs.Common.{◌≡◌, ◌≢◌, ℕ, ◌<◌, ◌≤◌, List, [], ◌∷◌, ◌++◌, length, map, filter, reverse, true, false, cond, Contains, Some, None, refl, sym, ap, subst, ◌∙◌, arith}
use Rattle.std.specs.BTreeMap.{is_at}
use Rattle.std.specs.List.{AllByRecursion, AllZip}
use Rattle.std.specs.List.Sorted.{IsStrictlySortedBy}
use Rattle.std.specs.Map.{keys_of, lookup}
use Rattle.std.proofs.lemmas.List.Elements.{Contains-get_or}
use Rattle.std.proofs.lemmas.List.Sorted.{Contains-permutation, IsPermutation-sym}
use Rattle.pm_store.specs.Files.{Files}
use Rattle.pm_values.specs.GroupOrder.{group_cmp}
use Rattle.pm_values.specs.declared.file_meta.FileMeta.{FileMeta}
use Rattle.pm_values.specs.declared.group.Group.{Group}
use Rattle.pm_schema.specs.Again.{IsDeclared}
use Rattle.pm_schema.specs.declared.schema.TableSchema.{TableSchema}
use Rattle.pm_model_history.specs.History.{Entry, rows_up_to}
use Rattle.pm_model_history.specs.Merge.{HistoryRow}
use Rattle.pm_model_history.specs.Merged.{scan_text}
use Rattle.pm_engine.specs.Covers.{Covers, Run}
use Rattle.pm_engine.specs.OfSchema.{meaning_of}
use Rattle.std.specs.FinMap.{empty}
use Rattle.pm_model_following.specs.Following.{HaveBases, followed, passed, passed_rows}
use Rattle.pm_model_following.specs.Groups.{rows_in}
use Rattle.pm_scan_rows.specs.Group.{runs_read}
use Rattle.pm_scan_rows.specs.Shown.{GroupRuns as Covered, GroupsCover, PrintsGroups}
use Rattle.pm_levels.specs.Runs.{RunView, files_of}
use Rattle.pm_manifest.specs.Live.{Live}
use Rattle.pm_manifest.specs.declared.entry.Entry as files
use Rattle.pm_model_contents.specs.Groups.{GroupRuns}
use Rattle.pm_model_contents.specs.Runs.{AreRunsOf, IsLive}
use Rattle.pm_model_folder.specs.Stored.{HasGroup, HasRun}
use Rattle.pm_runs.specs.Stand.{StoredRun, oldest_first}
use Rattle.pm_group_files.specs.Collected.{Collected, HaveTaken, nothing_of}
use Rattle.pm_group_files.specs.Jobs.{Grouped, all_jobs}
use Rattle.pm_group_files.specs.Meaning.{HasRuns}
use Rattle.pm_group_files.proofs.TakenLemmas.{RowLaws, all_stored, whole-runs}
use Rattle.pm_group_files.proofs.ViewLemmas.{HasOwn, OneRuns, at-one, each-own, has-runs}

-- ---- the laws of the crates below

-- of the rows of files, of the runs of groups, of scans, and of what is passed on
pub record Laws : Type 0 where
  pub rows : RowLaws
  pub one_runs : OneRuns
  pub scan : (s : TableSchema) (rows : List HistoryRow) (groups : List Covered) (text : List ℕ) → IsDeclared s → GroupsCover s groups rows
      → PrintsGroups (meaning_of s) (map (λ (p : Covered). p.1) groups) text → text ≡ scan_text s rows
  pub passed : (s : TableSchema) (g : Group) (entries : List Entry) (n : ℕ)
      → rows_in s g (passed_rows s entries n) ≡ rows_in s g (rows_up_to entries (passed s.options.producer entries n g))
  pub kept : (s : TableSchema) (entries more : List Entry) (n : ℕ) → HaveBases 1 entries → n ≤ length entries → followed s (entries ++ more) n ≡ followed s entries n
  pub start : (s : TableSchema) (entries : List Entry) → followed s entries 0 ≡ empty

-- ---- the groups of a view

-- a group that is none of them isn't found
none-found : (g : Group) (groups : List Grouped) → AllByRecursion (λ (e : Grouped). e.0 ≢ g) groups → lookup (is_at (group_cmp g)) groups ≡ None
none-found g [] others = refl
none-found g (e ∷ groups) others =
    elim (is_at (group_cmp g) e.0) as (λ b. is_at (group_cmp g) e.0 ≡ b → cond b (Some e.1) (lookup (is_at (group_cmp g)) groups) ≡ None) [
      | true ↦ λ at. absurd (others.0 (sym (at-one g e.0 at)))
      | false ↦ λ at. none-found g groups others.1
    ] refl

-- a group without a live file has no runs
pub no-runs : (live : Live) (g : Group) (runs : List RunView) → AreRunsOf live g runs → ((e : files.Entry) → IsLive live e → e.group ≡ g → ⊥) → runs ≡ []
no-runs live g [] are none = refl
no-runs live g (run ∷ runs) are none = absurd (by_files run.files are.made.each.0.some (λ m here. are-none m (Contains-permutation (files_of (run ∷ runs)) are.files m (IsPermutation-sym are.files (files_of (run ∷ runs)) are.made.whole) here)))
  where
    are-none : (m : FileMeta) → Contains are.files m → ⊥
    are-none m has = let live-one = (are.own.exact m).0 has in none live-one.0 live-one.1 live-one.2

    by_files : (ms : List FileMeta) → 0 < length ms → ((m : FileMeta) → Contains (ms ++ files_of runs) m → ⊥) → ⊥
    by_files [] some none-in = let no : 0 < 0 = some in omega arith
    by_files (m ∷ ms) some none-in = none-in m (Contains-get_or (m ∷ (ms ++ files_of runs)) 0 m (omega arith))

-- ---- all groups

filter-every : {X : Type 0} (xs : List X) → filter (λ x. true) xs ≡ xs
filter-every [] = refl
filter-every (x ∷ xs) = ap (λ ys. x ∷ ys) (filter-every xs)

module _ (laws : Laws) (f : Files) (s : TableSchema) (entries : List Entry) (id : ℕ) (live : Live) (has : (g : Group) → HasGroup f s entries id live g) where
  pub all-have : (groups : List Grouped) → AllByRecursion (HasOwn live) groups → AllByRecursion (HasRuns f s) groups
  all-have [] own = tt
  all-have (e ∷ groups) own = (has-runs laws.one_runs f s entries id live e (has e.0) own.0, all-have groups own.1)

  -- its stored runs, the oldest first
  abbrev own_runs : Group → List Run
  own_runs g = reverse (map (λ (r : StoredRun). r.rows) (has g).stored)

  oldest_are : (g : Group) → oldest_first (λ level. true) (has g).stored ≡ own_runs g
  oldest_are g = ap (λ stored. reverse (map (λ (r : StoredRun). r.rows) stored)) (filter-every (has g).stored)

  abbrev covered : List Grouped → List Covered
  covered groups = map (λ (e : Grouped). (e.0, own_runs e.0)) groups

  stored_are : (groups : List Grouped) (own : AllByRecursion (HasOwn live) groups) → all_stored f s groups (all-have groups own) ≡ map (λ (p : Covered). p.1) (covered groups)
  unfolding has-runs all-have all_stored
  stored_are [] own = refl
  stored_are (e ∷ groups) own = ap (λ (runs : List (List Run)). own_runs e.0 ∷ runs) (stored_are groups own.1)

  -- ---- the groups cover the rows

  covered-keys : (groups : List Grouped) → keys_of groups ≡ map (λ (p : Covered). p.0) (covered groups)
  covered-keys [] = refl
  covered-keys (e ∷ groups) = ap (λ gs. e.0 ∷ gs) (covered-keys groups)

  covered-each : (groups : List Grouped) → AllByRecursion (λ (p : Covered). Covers (meaning_of s) p.1 (rows_in s p.0 (rows_up_to entries id))) (covered groups)
  covered-each [] = tt
  covered-each (e ∷ groups) = (subst (λ runs. Covers (meaning_of s) runs (rows_in s e.0 (rows_up_to entries id))) (oldest_are e.0) (has e.0).stand.all, covered-each groups)

  others-covered : (g : Group) (groups : List Grouped) → AllByRecursion (λ (p : Covered). p.0 ≢ g) (covered groups) → AllByRecursion (λ (e : Grouped). e.0 ≢ g) groups
  others-covered g [] others = tt
  others-covered g (e ∷ groups) others = (others.0, others-covered g groups others.1)

  none-stored : (g : Group) (runs : List RunView) (stored : List StoredRun) → runs ≡ [] → AllZip (HasRun f s g) runs stored → stored ≡ []
  none-stored g [] [] none read = refl
  none-stored g [] (x ∷ xs) none read = absurd read
  none-stored g (run ∷ runs) stored none read = cc

  none-covered : (g : Group) → ((e : files.Entry) → IsLive live e → e.group ≡ g → ⊥) → Covers (meaning_of s) [] (rows_in s g (rows_up_to entries id))
  none-covered g none =
      let empty : (has g).stored ≡ [] = none-stored g (has g).runs (has g).stored (no-runs live g (has g).runs (has g).own none) (has g).read in
      subst (λ stored. Covers (meaning_of s) (oldest_first (λ level. true) stored) (rows_in s g (rows_up_to entries id))) empty (has g).stand.all

  groups-cover : (groups : List Grouped) → IsStrictlySortedBy group_cmp (keys_of groups) → ((g : Group) → GroupRuns live g (lookup (is_at (group_cmp g)) groups)) → GroupsCover s (covered groups) (rows_up_to entries id)
  groups-cover groups rising runs = record {
    rising = subst (IsStrictlySortedBy group_cmp) (covered-keys groups) rising;
    each = covered-each groups;
    others = λ g others. none-covered g (subst (GroupRuns live g) (none-found g groups (others-covered g groups others)) (runs g));
  }

  -- ---- the scan

  -- once the files of all groups were read, in their order, what the groups print is the scan of the table
  pub scanned : (groups : List Grouped) (final : Collected) (text : List ℕ) → IsDeclared s → IsStrictlySortedBy group_cmp (keys_of groups)
      → ((g : Group) → GroupRuns live g (lookup (is_at (group_cmp g)) groups)) → HaveTaken f (all_jobs s groups) (nothing_of s) final → PrintsGroups (meaning_of s) (runs_read final.groups) text
      → text ≡ scan_text s (rows_up_to entries id)
  scanned groups final text declared rising runs taken prints =
      let each = each-own live groups rising (λ g own found. subst (GroupRuns live g) found (runs g)) in
      let kept : runs_read final.groups ≡ map (λ (p : Covered). p.1) (covered groups) =
      whole-runs laws.rows f s groups (all-have groups each) (nothing_of s) final (record { schema = refl; runs = refl; kept = refl; rows = refl }) taken ∙ stored_are groups each in
      laws.scan s (rows_up_to entries id) (covered groups) text declared (groups-cover groups rising runs) (subst (λ l. PrintsGroups (meaning_of s) l text) kept prints)
