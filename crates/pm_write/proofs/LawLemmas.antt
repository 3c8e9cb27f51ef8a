-- What holds of batches and of their files.
use Rattle.std.proofs.Common.{◌≡◌, ◌≢◌, ◌↔◌, ℕ, ◌+◌, ◌<◌, ◌≤◌, List, [], ◌∷◌, length, map, Bool, true, Some, None, false, cond, refl, sym, ap, subst, ◌∙◌, arith}
use Rattle.std.specs.BTreeMap.{BTreeMap}
use Rattle.std.specs.Cmp.{Equal-is}
use Rattle.std.specs.List.{AllByRecursion}
use Rattle.std.specs.List.Sorted.{IsStrictlySortedBy}
use Rattle.std.specs.Map.{keys_of}
use Rattle.std.specs.Ordering.{eq_by_cmp, is_eq}
use Rattle.std.specs.declared.cmp.Ordering.TheVariants.{Less}
use Rattle.pm_values.specs.Fits.{Fits}
use Rattle.pm_values.specs.GroupOrder.{group_cmp}
use Rattle.pm_values.specs.Names.{Naming, counted}
use Rattle.pm_values.specs.Order.{Values}
use Rattle.pm_values.specs.declared.group.Group.{Group}
use Rattle.pm_values.proofs.Lemmas.{group_cmp-IsAntisymmetric}
use Rattle.pm_schema.specs.Again.{IsDeclared}
use Rattle.pm_schema.specs.Folder.{FitsPartition}
use Rattle.pm_schema.specs.declared.schema.TableSchema.{TableSchema}
use Rattle.pm_model_history.specs.Merge.{AllFit, HistoryRow}
use Rattle.pm_engine.specs.Covers.{CoversAll, Run}
use Rattle.pm_engine.specs.OfSchema.{meaning_of}
use Rattle.pm_model_following.specs.Groups.{group_of, rows_in}
use Rattle.pm_run.specs.Row.{most_sequence}
use Rattle.pm_run.specs.Writing.{IsMetaOf, first_key}
use Rattle.pm_write.specs.Batch.{AreRowsOf, AreStoredOf, GroupRows, Groups, HoldsRows, IsBatchOf, held_of, numbered}
use Rattle.pm_write.specs.Files.{AreFilesOfRuns, AreNewFiles, AreWritten, IsNewFile, IsWritten, exceeds, exceeds_at, next_of, next_run}
use Rattle.pm_write.specs.declared.files.NewFile.{NewFile}
use Rattle.pm_write.proofs.FileLemmas.{neither, not_above}
use Rattle.pm_write.proofs.GroupLemmas.{each_found, group_ties}
use Rattle.pm_write.proofs.ListLemmas.{from_map}
use Rattle.pm_write.proofs.NumberLemmas.{covers_numbered, greatest_first, least_first, of_file}

-- what is held of a group are its rows
rows_held : (s : TableSchema) (rows : List HistoryRow) (x : GroupRows) → HoldsRows s rows (Some x) → AreRowsOf s rows x
rows_held s [] x held = let no : Some x ≡ None = held in cc
rows_held s (row ∷ rows) x held = held

pub held_rows : (s : TableSchema) (rows : List HistoryRow) (batch : Groups) (g : Group) (x : GroupRows) → IsBatchOf s rows batch → held_of g batch ≡ Some x → AreRowsOf s (rows_in s g rows) x
held_rows s rows batch g x is found = rows_held s (rows_in s g rows) x (subst (HoldsRows s (rows_in s g rows)) found (is.held g))

no_group : (s : TableSchema) (batch : Groups) → IsBatchOf s [] batch → batch ≡ []
no_group s [] is = refl
no_group s (e ∷ es) is =
    let found : held_of e.0 (e ∷ es) ≡ Some e.1 = ap (λ (b : Bool). cond b (Some e.1) (held_of e.0 es)) (group_ties e.0) in
    let none : held_of e.0 (e ∷ es) ≡ None = is.held e.0 in
    cc

no_row : (s : TableSchema) (rows : List HistoryRow) → IsBatchOf s rows [] → rows ≡ []
no_row s [] is = refl
no_row s (row ∷ rows) is =
    let g = group_of s row.1 in
    let own : rows_in s g (row ∷ rows) ≡ row ∷ rows_in s g rows = ap (λ (b : Bool). cond b (row ∷ rows_in s g rows) (rows_in s g rows)) (group_ties g) in
    absurd (subst (λ (rs : List HistoryRow). HoldsRows s rs None) own (is.held g))

pub empty_batch : (s : TableSchema) (rows : List HistoryRow) (batch : Groups) → IsBatchOf s rows batch → (batch ≡ []) ↔ (rows ≡ [])
empty_batch s rows batch is =
    (λ e. no_row s rows (subst (IsBatchOf s rows) e is), λ e. no_group s batch (subst (λ (rs : List HistoryRow). IsBatchOf s rs batch) e is))

pub covers_held : (s : TableSchema) (rows : List HistoryRow) (batch : Groups) (g : Group) (x : GroupRows) (n : ℕ) → IsBatchOf s rows batch → held_of g batch ≡ Some x
    → CoversAll (meaning_of s) (numbered n x.run ∷ []) (rows_in s g rows)
covers_held s rows batch g x n is found = covers_numbered (meaning_of s) n x.run (rows_in s g rows) (held_rows s rows batch g x is found).covers

-- a row's number is no part of what is stored
stored_numbered : (s : TableSchema) (n : ℕ) (rows : List HistoryRow) (run : Run) → AreStoredOf s rows run → AreStoredOf s rows (numbered n run)
stored_numbered s n rows [] stored = tt
stored_numbered s n rows (x ∷ xs) stored = (stored.0, stored_numbered s n rows xs stored.1)

pub stored_held : (s : TableSchema) (rows : List HistoryRow) (batch : Groups) (g : Group) (x : GroupRows) (n : ℕ) → IsBatchOf s rows batch → held_of g batch ≡ Some x
    → AreStoredOf s (rows_in s g rows) (numbered n x.run)
stored_held s rows batch g x n is found = stored_numbered s n (rows_in s g rows) x.run (held_rows s rows batch g x is found).stored

-- the rows of a file have a first one
some_run : (n : ℕ) (run : Run) (key : List _) → first_key (numbered n run) ≡ Some key → 1 ≤ length run
some_run n [] key e = cc
some_run n (x ∷ xs) key e = omega arith

pub written : (s : TableSchema) (rows : List HistoryRow) (batch : Groups) (g : Group) (x : GroupRows) (n : ℕ) (names : Naming) (file : NewFile) → IsBatchOf s rows batch → held_of g batch ≡ Some x
    → n + x.count ≤ most_sequence + 1 → IsNewFile s names g (numbered n x.run) file → IsWritten s n x file
written s rows batch g x n names file is found most new =
    let are = held_rows s rows batch g x is found in
    let meta = new.file.made.meta in
    let some = some_run n x.run file.meta.min_key meta.least in
    let last = are.last in
    let lowest = meta.lowest in
    let highest = meta.highest in
    let greatest = greatest_first n x.run some in
    let least = least_first n x.run some in
    record {
      read = new.file.again (of_file s n x.count x.run most are.each);
      tells = subst (λ (name : List ℕ). IsMetaOf s 0 name (numbered n x.run) file.bytes file.meta) (sym meta.named) meta;
      least = omega arith;
      greatest = omega arith;
    }

-- what each group of a batch has, it holds
pub all_held : (s : TableSchema) (rows : List HistoryRow) (batch : Groups) → IsBatchOf s rows batch → AllByRecursion (λ (e : Group × GroupRows). held_of e.0 batch ≡ Some e.1) batch
all_held s rows batch is = each_found batch is.ordered

-- ---- the groups of a batch

-- some row is of a group that has rows
row-of : (P : HistoryRow → Type 0) (s : TableSchema) (g : Group) (rows : List HistoryRow) → AllByRecursion P rows → rows_in s g rows ≢ [] → (q : HistoryRow) × (group_of s q.1 ≡ g) × P q
row-of P s g [] all some = absurd (some refl)
row-of P s g (r ∷ rows) all some = at (λ others. row-of P s g rows all.1 others) (eq_by_cmp group_cmp (group_of s r.1) g) refl
  where
    at : (rows_in s g rows ≢ [] → (q : HistoryRow) × (group_of s q.1 ≡ g) × P q) → (t : Bool) → eq_by_cmp group_cmp (group_of s r.1) g ≡ t
        → (q : HistoryRow) × (group_of s q.1 ≡ g) × P q
    at rest true is = (r, group_cmp-IsAntisymmetric (group_of s r.1) g ((Equal-is (group_cmp (group_of s r.1) g)).0 is), all.0)
    at rest false is = rest (λ none. some (ap (λ (b : Bool). cond b (r ∷ rows_in s g rows) (rows_in s g rows)) is ∙ none))

-- a held group has rows
some_held : (s : TableSchema) (rows : List HistoryRow) (x : GroupRows) → HoldsRows s rows (Some x) → rows ≢ []
some_held s [] x held none = let no : Some x ≡ None = held in cc
some_held s (row ∷ rows) x held none = cc

pub some_group : (s : TableSchema) (rows : List HistoryRow) (batch : Groups) (g : Group) (x : GroupRows) → IsBatchOf s rows batch → held_of g batch ≡ Some x → rows_in s g rows ≢ []
some_group s rows batch g x is found = some_held s (rows_in s g rows) x (subst (HoldsRows s (rows_in s g rows)) found (is.held g))

-- what holds of the group of each row holds of each group of a batch
module _ (s : TableSchema) (Q : Group → Type 0) (P : HistoryRow → Type 0) (holds : (r : HistoryRow) → P r → Q (group_of s r.1)) (rows : List HistoryRow) (batch : Groups)
    (all : AllByRecursion P rows) (is : IsBatchOf s rows batch) where
  by_groups : (es : Groups) → AllByRecursion (λ (e : Group × GroupRows). held_of e.0 batch ≡ Some e.1) es → AllByRecursion (λ (e : Group × GroupRows). Q e.0) es
  by_groups [] held = tt
  by_groups (e ∷ es) held =
      let own : HoldsRows s (rows_in s e.0 rows) (Some e.1) = subst (HoldsRows s (rows_in s e.0 rows)) held.0 (is.held e.0) in
      let q = row-of P s e.0 rows all (some_held s (rows_in s e.0 rows) e.1 own) in
      (subst Q q.1 (holds q.0 q.2), by_groups es held.1)

  each_group : AllByRecursion (λ (e : Group × GroupRows). Q e.0) batch
  each_group = by_groups batch (all_held s rows batch is)

pub folders : ((s : TableSchema) (row : Values) → IsDeclared s → Fits s.columns row → FitsPartition s (group_of s row)) → (s : TableSchema) (rows : List HistoryRow) (batch : Groups)
    → IsDeclared s → AllFit s.columns rows → IsBatchOf s rows batch → AllByRecursion (λ (e : Group × GroupRows). FitsPartition s e.0) batch
folders law s rows batch declared fits is = each_group s (FitsPartition s) (λ (r : HistoryRow). Fits s.columns r.1) (λ r own. law s r.1 declared own) rows batch fits is

all-unit : (rows : List HistoryRow) → AllByRecursion (λ (r : HistoryRow). Unit {0}) rows
all-unit [] = tt
all-unit (r ∷ rows) = (tt, all-unit rows)

pub buckets : ((s : TableSchema) (row : Values) → 1 ≤ s.options.bucket → (group_of s row).bucket < s.options.bucket) → (s : TableSchema) (rows : List HistoryRow) (batch : Groups)
    → 1 ≤ s.options.bucket → IsBatchOf s rows batch → AllByRecursion (λ (e : Group × GroupRows). e.0.bucket < s.options.bucket) batch
buckets law s rows batch some is = each_group s (λ (g : Group). g.bucket < s.options.bucket) (λ (r : HistoryRow). Unit {0}) (λ r own. law s r.1 some) rows batch (all-unit rows) is

-- ---- how many they are

-- how many rows groups have
abbrev rows_of_all : TableSchema → List HistoryRow → Groups → ℕ
rows_of_all s rows [] = 0
rows_of_all s rows (e ∷ es) = length (rows_in s e.0 rows) + rows_of_all s rows es

none-in : (s : TableSchema) (es : Groups) → rows_of_all s [] es ≡ 0
none-in s [] = refl
none-in s (e ∷ es) = let rest = none-in s es in omega arith

-- a row adds one to its own group, and nothing to those that aren't it
one-more : (s : TableSchema) (r : HistoryRow) (rows : List HistoryRow) (g : Group) (b : Bool) → eq_by_cmp group_cmp (group_of s r.1) g ≡ b
    → length (rows_in s g (r ∷ rows)) ≡ length (cond b (r ∷ rows_in s g rows) (rows_in s g rows))
one-more s r rows g b is = ap (λ (t : Bool). length (cond t (r ∷ rows_in s g rows) (rows_in s g rows))) is

others-stay : (s : TableSchema) (r : HistoryRow) (rows : List HistoryRow) (es : Groups) → AllByRecursion (λ (e : Group × GroupRows). eq_by_cmp group_cmp (group_of s r.1) e.0 ≡ false) es
    → rows_of_all s (r ∷ rows) es ≡ rows_of_all s rows es
others-stay s r rows [] apart = refl
others-stay s r rows (e ∷ es) apart = let own = one-more s r rows e.0 false apart.0 in let rest = others-stay s r rows es apart.1 in omega arith

above-apart : (h : Group) (es : Groups) → AllByRecursion (λ (e : Group × GroupRows). group_cmp h e.0 ≡ Less) es → AllByRecursion (λ (e : Group × GroupRows). eq_by_cmp group_cmp h e.0 ≡ false) es
above-apart h [] above = tt
above-apart h (e ∷ es) above = (ap is_eq above.0, above-apart h es above.1)

at-most-one : (s : TableSchema) (r : HistoryRow) (rows : List HistoryRow) (es : Groups) → IsStrictlySortedBy group_cmp (keys_of es) → rows_of_all s (r ∷ rows) es ≤ rows_of_all s rows es + 1
unfolding IsStrictlySortedBy
at-most-one s r rows [] ordered = omega arith
at-most-one s r rows (e ∷ es) ordered = by (at-most-one s r rows es ordered.1) (eq_by_cmp group_cmp (group_of s r.1) e.0) refl
  where
    by : rows_of_all s (r ∷ rows) es ≤ rows_of_all s rows es + 1 → (b : Bool) → eq_by_cmp group_cmp (group_of s r.1) e.0 ≡ b → rows_of_all s (r ∷ rows) (e ∷ es) ≤ rows_of_all s rows (e ∷ es) + 1
    by most true is =
        let same : group_of s r.1 ≡ e.0 = group_cmp-IsAntisymmetric (group_of s r.1) e.0 ((Equal-is (group_cmp (group_of s r.1) e.0)).0 is) in
        let above = from_map (λ (f : Group × GroupRows). f.0) (λ (g : Group). group_cmp e.0 g ≡ Less) es ordered.0 in
        let apart = subst (λ (h : Group). AllByRecursion (λ (f : Group × GroupRows). eq_by_cmp group_cmp h f.0 ≡ false) es) (sym same) (above-apart e.0 es above) in
        let rest = others-stay s r rows es apart in
        let own = one-more s r rows e.0 true is in
        omega arith
    by most false is =
        let own = one-more s r rows e.0 false is in
        omega arith

at-most : (s : TableSchema) (rows : List HistoryRow) (es : Groups) → IsStrictlySortedBy group_cmp (keys_of es) → rows_of_all s rows es ≤ length rows
at-most s [] es ordered = let none = none-in s es in omega arith
at-most s (r ∷ rows) es ordered = let rest = at-most s rows es ordered in let one = at-most-one s r rows es ordered in omega arith

some-length : (rows : List HistoryRow) → rows ≢ [] → 1 ≤ length rows
some-length [] some = absurd (some refl)
some-length (r ∷ rows) some = omega arith

each-some : (s : TableSchema) (rows : List HistoryRow) (batch es : Groups) → IsBatchOf s rows batch → AllByRecursion (λ (e : Group × GroupRows). held_of e.0 batch ≡ Some e.1) es → length es ≤ rows_of_all s rows es
each-some s rows batch [] is held = omega arith
each-some s rows batch (e ∷ es) is held =
    let own : HoldsRows s (rows_in s e.0 rows) (Some e.1) = subst (HoldsRows s (rows_in s e.0 rows)) held.0 (is.held e.0) in
    let some = some-length (rows_in s e.0 rows) (some_held s (rows_in s e.0 rows) e.1 own) in
    let rest = each-some s rows batch es is held.1 in
    omega arith

pub few : (s : TableSchema) (rows : List HistoryRow) (batch : Groups) → IsBatchOf s rows batch → length batch ≤ length rows
few s rows batch is =
    let most = at-most s rows batch is.ordered in
    let some = each-some s rows batch batch is (all_held s rows batch is) in
    omega arith

pub all_written : (s : TableSchema) (rows : List HistoryRow) (batch : Groups) (next : BTreeMap Group ℕ) (names : Naming) (files : List NewFile) → IsBatchOf s rows batch → exceeds next batch ≡ false
    → (new : AreNewFiles s next names batch files) → AreWritten s next batch new.data_files
all_written s rows batch next names files is within new =
    by_groups batch names new.data_files (each_found batch is.ordered) within new.runs
  where
    by_groups : (es : Groups) (names : Naming) (xs : List NewFile) → AllByRecursion (λ (e : Group × GroupRows). held_of e.0 batch ≡ Some e.1) es → exceeds next es ≡ false
        → AreFilesOfRuns s names (map (next_run next) es) xs → AreWritten s next es xs
    by_groups [] names [] held within new = tt
    by_groups [] names (x ∷ xs) held within new = absurd new
    by_groups (e ∷ es) names [] held within new = absurd new
    by_groups (e ∷ es) names (x ∷ xs) held within new =
        let parts = neither (exceeds_at next e) (exceeds next es) within in (
          written s rows batch e.0 e.1 (next_of next e.0) names x is held.0 (not_above (next_of next e.0 + e.1.count) parts.0) new.0,
          by_groups es (counted names) xs held.1 parts.1 new.1,
        )
