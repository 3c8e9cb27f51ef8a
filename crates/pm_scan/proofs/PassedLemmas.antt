-- The runs whose rows are passed on cover these rows, so the groups that have them print their scan.
use Rattle.std.proofs.Common.{◌≡◌, ◌≢◌, ◌⊎◌, inl, inr, ℕ, ◌<◌, ◌≤◌, nat_lt, Bool, true, false, cond, List, [], ◌∷◌, map, filter, reverse, Option, None, Some, Less, refl, sym, ap, subst, ◌∙◌, arith}
use Rattle.std.specs.BTreeMap.{is_at}
use Rattle.std.specs.List.{AllByRecursion, AllZip}
use Rattle.std.specs.List.Sorted.{IsStrictlySortedBy}
use Rattle.std.specs.Map.{keys_of, lookup}
use Rattle.std.proofs.lemmas.Bool.{eq-eqb, eqb-true, lt-ltb}
use Rattle.pm_store.specs.Files.{Files}
use Rattle.pm_options.specs.declared.kinds.Producer.{Producer}
use Rattle.pm_options.specs.declared.kinds.Producer.TheVariants as producers
use Rattle.pm_values.specs.GroupOrder.{group_cmp}
use Rattle.pm_values.specs.declared.group.Group.{Group}
use Rattle.pm_schema.specs.Again.{IsDeclared}
use Rattle.pm_schema.specs.declared.schema.TableSchema.{TableSchema}
use Rattle.pm_model_history.specs.History.{Entry, rows_up_to}
use Rattle.pm_model_history.specs.Merged.{scan_text}
use Rattle.pm_engine.specs.Covers.{Covers, Run}
use Rattle.pm_engine.specs.OfSchema.{meaning_of}
use Rattle.pm_model_following.specs.Following.{passed, passed_rows}
use Rattle.pm_model_following.specs.Groups.{rows_in}
use Rattle.pm_scan_rows.specs.Group.{runs_read}
use Rattle.pm_scan_rows.specs.Shown.{GroupRuns as Covered, GroupsCover, PrintsGroups}
use Rattle.pm_levels.specs.Runs.{IsRun, LevelsRise, RunView}
use Rattle.pm_manifest.specs.Live.{Live}
use Rattle.pm_model_contents.specs.Groups.{GroupRuns}
use Rattle.pm_model_folder.specs.Stored.{HasGroup, HasRun}
use Rattle.pm_runs.specs.Stand.{StoredRun, oldest_first, top_of}
use Rattle.pm_group_files.specs.Collected.{Collected, HaveTaken, nothing_of}
use Rattle.pm_model_folder.specs.Commits.{Needs}
use Rattle.pm_model_folder.specs.Ledger.{Past}
use Rattle.pm_group_files.specs.Jobs.{Grouped, all_jobs, file_jobs, run_jobs, whole_group}
use Rattle.pm_group_files.specs.declared.job.Ends.TheVariants as ends
use Rattle.pm_group_files.specs.declared.job.Job.{Job}
use Rattle.pm_group_files.specs.Meaning.{HasRuns, StoodAt}
use Rattle.pm_group_files.proofs.ReadLemmas.{all-parts}
use Rattle.pm_group_files.proofs.TakenLemmas.{all_stored, whole-runs}
use Rattle.pm_group_files.proofs.ViewLemmas.{HasOwn, at-one, each-own}
use Rattle.pm_scan.specs.Rows.{from_first, passed_groups, passes_at, passes_by, with_runs}
use Rattle.pm_scan.proofs.ScanLemmas.{Laws, no-runs}

-- ---- runs from the first one on that passes

abbrev AllSuch : (ℕ → Bool) → List RunView → Type 0
AllSuch such runs = AllByRecursion (λ (run : RunView). such run.level ≡ true) runs

-- where a run passes, so do those after it
abbrev Climb : (ℕ → Bool) → List RunView → Type 0
Climb such [] = Unit {0}
Climb such (run ∷ older) = (such run.level ≡ true → AllSuch such older) × Climb such older

pub each-from : (P : RunView → Type 0) (such : ℕ → Bool) (runs : List RunView) → AllByRecursion P runs → AllByRecursion P (from_first such runs)
each-from P such [] all = tt
each-from P such (run ∷ runs) all =
    elim (such run.level) as (λ b. AllByRecursion P (cond b (run ∷ runs) (from_first such runs))) [
      | true ↦ all
      | false ↦ each-from P such runs all.1
    ]

module _ (f : Files) (s : TableSchema) (g : Group) (such : ℕ → Bool) where
  stored-all : (runs : List RunView) (stored : List StoredRun) → AllSuch such runs → AllZip (HasRun f s g) runs stored → filter (λ (x : StoredRun). such x.level) stored ≡ stored
  stored-all [] [] all read = refl
  stored-all [] (x ∷ xs) all read = absurd read
  stored-all (run ∷ runs) [] all read = absurd read
  stored-all (run ∷ runs) (x ∷ xs) all read =
      let rest : List StoredRun = filter (λ (x : StoredRun). such x.level) xs in
      let passes : such x.level ≡ true = ap such read.0.level ∙ all.0 in
      ap (λ b. cond b (x ∷ rest) rest) passes ∙ ap (λ (xs : List StoredRun). x ∷ xs) (stored-all runs xs all.1 read.1)

  -- their stored rows are those whose level passes
  zip-from : (runs : List RunView) (stored : List StoredRun) → Climb such runs → AllZip (HasRun f s g) runs stored
      → AllZip (HasRun f s g) (from_first such runs) (filter (λ (x : StoredRun). such x.level) stored)
  zip-from [] [] climb read = tt
  zip-from [] (x ∷ xs) climb read = absurd read
  zip-from (run ∷ runs) [] climb read = absurd read
  zip-from (run ∷ runs) (x ∷ xs) climb read =
      let rest : List StoredRun = filter (λ (x : StoredRun). such x.level) xs in
      elim (such run.level) as (λ b. such run.level ≡ b → AllZip (HasRun f s g) (cond b (run ∷ runs) (from_first such runs)) (filter (λ (x : StoredRun). such x.level) (x ∷ xs))) [
        | true ↦ λ is. subst (AllZip (HasRun f s g) (run ∷ runs)) (sym (stored-all (run ∷ runs) (x ∷ xs) (is, climb.0 is) read)) read
        | false ↦ λ is.
            let passes : such x.level ≡ false = ap such read.0.level ∙ is in
            subst (AllZip (HasRun f s g) (from_first such runs)) (sym (ap (λ b. cond b (x ∷ rest) rest) passes)) (zip-from runs xs climb.1 read.1)
      ] refl

  zip-none : (runs : List RunView) (stored : List StoredRun) → runs ≡ [] → AllZip (HasRun f s g) runs stored → stored ≡ []
  zip-none [] [] none read = refl
  zip-none [] (x ∷ xs) none read = absurd read
  zip-none (run ∷ runs) stored none read = cc

-- ---- what stood

needs-split : (p : Past) (s : TableSchema) (id : ℕ) (g : Group) (run : RunView) (runs : List RunView)
    → AllByRecursion (λ (job : Job). Needs (p.stood id) s id job.path) (run_jobs s g (run ∷ runs)) → AllByRecursion (λ (job : Job). Needs (p.stood id) s id job.path) (run_jobs s g runs)
needs-split p s id g run [] needed = tt
needs-split p s id g run (older ∷ runs) needed =
    (all-parts (λ (job : Job). Needs (p.stood id) s id job.path) (file_jobs s g ends.Run run.files) (run_jobs s g (older ∷ runs)) needed).1

-- without the newest run
stood-rest : (p : Past) (s : TableSchema) (id : ℕ) (g : Group) (run : RunView) (runs : List RunView) → (runs ≡ [] → ⊥) → StoodAt p s id (whole_group (g, run ∷ runs)) → StoodAt p s id (whole_group (g, runs))
stood-rest p s id g run runs some stood = by stood.runs.stored stood.runs.read
  where
    by : (stored : List StoredRun) → AllZip (HasRun (p.stood id) s g) (run ∷ runs) stored → StoodAt p s id (whole_group (g, runs))
    by [] read = absurd read
    by (x ∷ xs) read = record {
      runs = record { some = some; each = stood.runs.each.1; stored = xs; read = read.1 };
      kept = tt;
      older = ([], tt);
      needed = needs-split p s id g run runs stood.needed;
    }

-- the runs from one on stood, where all of the group did
pub left-stood : (p : Past) (s : TableSchema) (id : ℕ) (g : Group) (such : ℕ → Bool) (runs : List RunView) → (from_first such runs ≡ [] → ⊥) → StoodAt p s id (whole_group (g, runs))
    → StoodAt p s id (whole_group (g, from_first such runs))
left-stood p s id g such [] some stood = absurd (some refl)
left-stood p s id g such (run ∷ runs) some stood =
    elim (such run.level) as (λ b. (cond b (run ∷ runs) (from_first such runs) ≡ [] → ⊥) → StoodAt p s id (whole_group (g, cond b (run ∷ runs) (from_first such runs)))) [
      | true ↦ λ some. stood
      | false ↦ λ some. left-stood p s id g such runs some (stood-rest p s id g run runs (λ none. some (ap (from_first such) none)) stood)
    ] some

-- ---- by the producer

-- a run behind one whose rows are passed on
one-behind : (p : Producer) (top : ℕ) (run other : RunView) → other.level ≤ top → passes_by p top run.level ≡ true
    → (run.level < other.level) ⊎ ((run.level ≡ 0) × (other.level ≡ 0)) → passes_by p top other.level ≡ true
one-behind producers.None top run other within is rise = refl
one-behind producers.Input top run other within is rise = refl
one-behind producers.Lookup top run other within is (inl above) = lt-ltb 0 other.level (omega (arith, above))
one-behind producers.Lookup top run other within is (inr (lowest, also)) = absurd (let no : nat_lt 0 0 ≡ true = subst (λ n. nat_lt 0 n ≡ true) lowest is in cc)
one-behind producers.FullCompaction top run other within is (inl above) = absurd (let same : run.level ≡ top = eqb-true run.level top is in omega (arith, same, above, within))
one-behind producers.FullCompaction top run other within is (inr (lowest, also)) = eq-eqb other.level top (also ∙ sym lowest ∙ eqb-true run.level top is)

behind : (p : Producer) (top : ℕ) (run : RunView) (older : List RunView) → AllByRecursion (λ (run : RunView). run.level ≤ top) older → passes_by p top run.level ≡ true
    → AllByRecursion (λ (other : RunView). (run.level < other.level) ⊎ ((run.level ≡ 0) × (other.level ≡ 0))) older → AllSuch (passes_by p top) older
behind p top run [] within is rise = tt
behind p top run (other ∷ older) within is rise = (one-behind p top run other within.0 is rise.0, behind p top run older within.1 is rise.1)

climbs : (p : Producer) (top : ℕ) (runs : List RunView) → AllByRecursion (λ (run : RunView). run.level ≤ top) runs → LevelsRise runs → Climb (passes_by p top) runs
climbs p top [] within rise = tt
climbs p top (run ∷ older) within rise = (λ is. behind p top run older within.1 is rise.0, climbs p top older within.1 rise.1)

-- ---- the groups

some-run : (run : RunView) (older : List RunView) → (run ∷ older) ≢ []
some-run run older is = cc

keys-put : (P : Group → Type 0) (g : Group) (left : List RunView) (groups : List Grouped) → P g → AllByRecursion P (keys_of groups) → AllByRecursion P (keys_of (with_runs g left groups))
keys-put P g [] groups one all = all
keys-put P g (run ∷ left) groups one all = (one, all)

pub keys-passed : (s : TableSchema) (P : Group → Type 0) (groups : List Grouped) → AllByRecursion P (keys_of groups) → AllByRecursion P (keys_of (passed_groups s groups))
keys-passed s P [] all = tt
keys-passed s P (e ∷ groups) all = keys-put P e.0 (from_first (passes_at s) e.1) (passed_groups s groups) all.0 (keys-passed s P groups all.1)

rising-put : (g : Group) (left : List RunView) (groups : List Grouped) → AllByRecursion (λ h. group_cmp g h ≡ Less) (keys_of groups) → IsStrictlySortedBy group_cmp (keys_of groups)
    → IsStrictlySortedBy group_cmp (keys_of (with_runs g left groups))
unfolding IsStrictlySortedBy
rising-put g [] groups below rising = rising
rising-put g (run ∷ left) groups below rising = (below, rising)

rising-passed : (s : TableSchema) (groups : List Grouped) → IsStrictlySortedBy group_cmp (keys_of groups) → IsStrictlySortedBy group_cmp (keys_of (passed_groups s groups))
unfolding IsStrictlySortedBy
rising-passed s [] rising = rising
rising-passed s (e ∷ groups) rising =
    rising-put e.0 (from_first (passes_at s) e.1) (passed_groups s groups) (keys-passed s (λ h. group_cmp e.0 h ≡ Less) groups rising.0) (rising-passed s groups rising.1)

-- a group that has none of the runs
abbrev HasNone : TableSchema → Group → Grouped → Type 0
HasNone s g e = e.0 ≡ g → from_first (passes_at s) e.1 ≡ []

left-put : (s : TableSchema) (g h : Group) (runs left : List RunView) (groups : List Grouped) → from_first (passes_at s) runs ≡ left → AllByRecursion (λ (e : Grouped). e.0 ≢ g) (with_runs h left groups)
    → HasNone s g (h, runs) × AllByRecursion (λ (e : Grouped). e.0 ≢ g) groups
left-put s g h runs [] groups is others = (λ same. is, others)
left-put s g h runs (run ∷ left) groups is others = (λ same. absurd (others.0 same), others.1)

left-none : (s : TableSchema) (g : Group) (groups : List Grouped) → AllByRecursion (λ (e : Grouped). e.0 ≢ g) (passed_groups s groups) → AllByRecursion (HasNone s g) groups
left-none s g [] others = tt
left-none s g (e ∷ groups) others =
    let parts = left-put s g e.0 e.1 (from_first (passes_at s) e.1) (passed_groups s groups) refl others in
    (parts.0, left-none s g groups parts.1)

found-none : (s : TableSchema) (g : Group) (groups : List Grouped) (runs : List RunView) → AllByRecursion (HasNone s g) groups → lookup (is_at (group_cmp g)) groups ≡ Some runs
    → from_first (passes_at s) runs ≡ []
found-none s g [] runs none found = absurd (let no : None ≡ Some runs = found in cc)
found-none s g (e ∷ groups) runs none found =
    elim (is_at (group_cmp g) e.0) as (λ b. is_at (group_cmp g) e.0 ≡ b → cond b (Some e.1) (lookup (is_at (group_cmp g)) groups) ≡ Some runs → from_first (passes_at s) runs ≡ []) [
      | true ↦ λ at here.
          let same : e.1 ≡ runs = cc in
          subst (λ (runs : List RunView). from_first (passes_at s) runs ≡ []) same (none.0 (sym (at-one g e.0 at)))
      | false ↦ λ at here. found-none s g groups runs none.1 here
    ] refl found

module _ (laws : Laws) (f : Files) (s : TableSchema) (entries : List Entry) (id : ℕ) (live : Live) (has : (g : Group) → HasGroup f s entries id live g) where
  -- the stored runs whose rows are passed on
  abbrev stored_of : Group → List StoredRun
  stored_of g = filter (λ (x : StoredRun). passes_at s x.level) (has g).stored

  passed-read : (g : Group) → AllZip (HasRun f s g) (from_first (passes_at s) (has g).runs) (stored_of g)
  passed-read g =
      zip-from f s g (passes_at s) (has g).runs (has g).stored (climbs s.options.producer (top_of s) (has g).runs (has g).within (has g).own.made.levels) (has g).read

  passed-has : (g : Group) (runs left : List RunView) → from_first (passes_at s) runs ≡ left → left ≢ [] → HasOwn live (g, runs) → HasRuns f s (g, left)
  passed-has g runs left is some own =
      let same : (has g).runs ≡ runs = laws.one_runs live g (has g).runs runs (has g).own own.0 in record {
        some = some;
        each = subst (AllByRecursion IsRun) is (each-from IsRun (passes_at s) runs own.0.made.each);
        stored = stored_of g;
        read = subst (λ (left : List RunView). AllZip (HasRun f s g) left (stored_of g)) (ap (from_first (passes_at s)) same ∙ is) (passed-read g);
      }

  put-have : (g : Group) (runs left : List RunView) (groups : List Grouped) → from_first (passes_at s) runs ≡ left → HasOwn live (g, runs) → AllByRecursion (HasRuns f s) groups
      → AllByRecursion (HasRuns f s) (with_runs g left groups)
  put-have g runs [] groups is own have = have
  put-have g runs (run ∷ left) groups is own have = (passed-has g runs (run ∷ left) is (some-run run left) own, have)

  -- the groups that have such runs have their files
  pub passed-have : (groups : List Grouped) → AllByRecursion (HasOwn live) groups → AllByRecursion (HasRuns f s) (passed_groups s groups)
  passed-have [] own = tt
  passed-have (e ∷ groups) own = put-have e.0 e.1 (from_first (passes_at s) e.1) (passed_groups s groups) refl own.0 (passed-have groups own.1)

  abbrev runs_of : Group → List Run
  runs_of g = oldest_first (passes_at s) (has g).stored

  abbrev covered : List Grouped → List Covered
  covered groups = map (λ (e : Grouped). (e.0, runs_of e.0)) groups

  put-stored : (g : Group) (runs left : List RunView) (groups : List Grouped) (is : from_first (passes_at s) runs ≡ left) (own : HasOwn live (g, runs)) (have : AllByRecursion (HasRuns f s) groups)
      → all_stored f s groups have ≡ map (λ (p : Covered). p.1) (covered groups)
      → all_stored f s (with_runs g left groups) (put-have g runs left groups is own have) ≡ map (λ (p : Covered). p.1) (covered (with_runs g left groups))
  unfolding passed-has put-have all_stored
  put-stored g runs [] groups is own have so = so
  put-stored g runs (run ∷ left) groups is own have so = ap (λ (rest : List (List Run)). runs_of g ∷ rest) so

  stored_are : (groups : List Grouped) (own : AllByRecursion (HasOwn live) groups)
      → all_stored f s (passed_groups s groups) (passed-have groups own) ≡ map (λ (p : Covered). p.1) (covered (passed_groups s groups))
  unfolding passed-have all_stored
  stored_are [] own = refl
  stored_are (e ∷ groups) own =
      put-stored e.0 e.1 (from_first (passes_at s) e.1) (passed_groups s groups) refl own.0 (passed-have groups own.1) (stored_are groups own.1)

  -- ---- they cover the rows

  covers-by : (p : Producer) (g : Group) → Covers (meaning_of s) (oldest_first (passes_by p (top_of s)) (has g).stored) (rows_in s g (rows_up_to entries (passed p entries id g)))
  covers-by producers.None g = (has g).stand.all
  covers-by producers.Input g = (has g).stand.all
  covers-by producers.Lookup g = (has g).stand.above_zero
  covers-by producers.FullCompaction g = (has g).stand.at_top

  covers-of : (g : Group) → Covers (meaning_of s) (runs_of g) (rows_in s g (passed_rows s entries id))
  covers-of g = subst (Covers (meaning_of s) (runs_of g)) (sym (laws.passed s g entries id)) (covers-by s.options.producer g)

  covered-keys : (groups : List Grouped) → keys_of groups ≡ map (λ (p : Covered). p.0) (covered groups)
  covered-keys [] = refl
  covered-keys (e ∷ groups) = ap (λ gs. e.0 ∷ gs) (covered-keys groups)

  covered-each : (groups : List Grouped) → AllByRecursion (λ (p : Covered). Covers (meaning_of s) p.1 (rows_in s p.0 (passed_rows s entries id))) (covered groups)
  covered-each [] = tt
  covered-each (e ∷ groups) = (covers-of e.0, covered-each groups)

  others-covered : (g : Group) (groups : List Grouped) → AllByRecursion (λ (p : Covered). p.0 ≢ g) (covered groups) → AllByRecursion (λ (e : Grouped). e.0 ≢ g) groups
  others-covered g [] others = tt
  others-covered g (e ∷ groups) others = (others.0, others-covered g groups others.1)

  -- a group that isn't among them has none of the runs
  none-left : (g : Group) (groups : List Grouped) → ((g : Group) → GroupRuns live g (lookup (is_at (group_cmp g)) groups)) → AllByRecursion (HasNone s g) groups
      → from_first (passes_at s) (has g).runs ≡ []
  none-left g groups runs none = by (lookup (is_at (group_cmp g)) groups) refl (runs g)
    where
      by : (o : Option (List RunView)) → lookup (is_at (group_cmp g)) groups ≡ o → GroupRuns live g o → from_first (passes_at s) (has g).runs ≡ []
      by None found own = ap (from_first (passes_at s)) (no-runs live g (has g).runs (has g).own own)
      by (Some own_runs) found own =
          ap (from_first (passes_at s)) (laws.one_runs live g (has g).runs own_runs (has g).own own.0) ∙ found-none s g groups own_runs none found

  none-covered : (g : Group) → from_first (passes_at s) (has g).runs ≡ [] → Covers (meaning_of s) [] (rows_in s g (passed_rows s entries id))
  none-covered g none =
      let empty : stored_of g ≡ [] = zip-none f s g (passes_at s) (from_first (passes_at s) (has g).runs) (stored_of g) none (passed-read g) in
      subst (λ (stored : List StoredRun). Covers (meaning_of s) (reverse (map (λ (r : StoredRun). r.rows) stored)) (rows_in s g (passed_rows s entries id))) empty (covers-of g)

  groups-cover : (groups : List Grouped) → IsStrictlySortedBy group_cmp (keys_of groups) → ((g : Group) → GroupRuns live g (lookup (is_at (group_cmp g)) groups))
      → GroupsCover s (covered (passed_groups s groups)) (passed_rows s entries id)
  groups-cover groups rising runs = record {
    rising = subst (IsStrictlySortedBy group_cmp) (covered-keys (passed_groups s groups)) (rising-passed s groups rising);
    each = covered-each (passed_groups s groups);
    others = λ g others. none-covered g (none-left g groups runs (left-none s g groups (others-covered g (passed_groups s groups) others)));
  }

  -- ---- their scan

  -- once the files of these runs were read, in their order, what the groups print is the scan of the rows
  pub passed-scanned : (groups : List Grouped) (final : Collected) (text : List ℕ) → IsDeclared s → IsStrictlySortedBy group_cmp (keys_of groups)
      → ((g : Group) → GroupRuns live g (lookup (is_at (group_cmp g)) groups)) → HaveTaken f (all_jobs s (passed_groups s groups)) (nothing_of s) final
      → PrintsGroups (meaning_of s) (runs_read final.groups) text → text ≡ scan_text s (passed_rows s entries id)
  passed-scanned groups final text declared rising runs taken prints =
      let each = each-own live groups rising (λ g own found. subst (GroupRuns live g) found (runs g)) in
      let kept : runs_read final.groups ≡ map (λ (p : Covered). p.1) (covered (passed_groups s groups)) =
      whole-runs laws.rows f s (passed_groups s groups) (passed-have groups each) (nothing_of s) final (record { schema = refl; runs = refl; kept = refl; rows = refl }) taken ∙ stored_are groups each in
      laws.scan s (passed_rows s entries id) (covered (passed_groups s groups)) text declared (groups-cover groups rising runs)
      (subst (λ l. PrintsGroups (meaning_of s) l text) kept prints)
