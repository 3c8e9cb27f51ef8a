-- Aggregation, column by column: the rows of a key in one column are cells, and a column is worth what its function
-- makes of them.
use Rattle.std.proofs.Common.{All, arith, get_or, nat_lt, ◌+◌, ◌≡◌, ◌≢◌, ℕ, zero, suc, List, [], ◌∷◌, ◌++◌, map, Bool, true, false, not, ◌||◌, ◌&&◌, cond, Option, Some, None, IsTrue, refl, sym, ap, subst, ◌∙◌, slice_get, is_some, length}
use Rattle.std.specs.List.{filter_map, find, last_or, position, position_or_len}
use Rattle.std.specs.Option.{option_map, unwrap_or}
use Rattle.std.specs.Ordering.{is_le, is_ge}
use Rattle.std.proofs.lemmas.List.{length-map}
use Rattle.std.proofs.lemmas.Bool.Decides.{nat_tests}
use Rattle.std.proofs.lemmas.Option.{get_or_from_slice_get, slice_get-get_or, slice_get-map}
use Rattle.std.proofs.lemmas.Slice.Eq.{bytes_eq-Decides}
use Rattle.std.specs.Str.{bytes_eq}
use Rattle.pm_options.specs.Entries.{Entries, entry_at}
use Rattle.pm_options.specs.Pairs.{is_taker}
use Rattle.pm_options.specs.declared.kinds.EngineKind.TheVariants.{Aggregation}
use Rattle.pm_options.specs.declared.kinds.Function.{Function}
use Rattle.pm_options.specs.declared.kinds.Function.TheVariants as names
use Rattle.pm_schema.specs.declared.schema.TableSchema.{TableSchema}
use Rattle.pm_values.specs.Fits.{Fits}
use Rattle.pm_values.specs.Kind.{retracts}
use Rattle.pm_values.specs.Order.{Values}
use Rattle.pm_values.specs.declared.column.Column.{Column}
use Rattle.pm_values.specs.declared.kind.Kind.{Kind}
use Rattle.pm_values.specs.declared.kind.Kind.TheVariants.{Insert}
use Rattle.pm_model_history.specs.ColumnValue.{adding, aggregate_by, all_value, any_value, counted, delimiter_of, extreme_value, first_value, joined_value, last_left, last_value, non_null, sum_value, summand, text_in, truth_in, value_by, values_at, width_of}
use Rattle.pm_model_history.specs.Merge.{HistoryRow, key_of, value_at}
use Rattle.pm_model_history.specs.Merged.{shows, shows_by}
use Rattle.pm_model_history.specs.Taken.{function_of, is_key, refuses_retractions, refused_at, skips_retractions, stores, stores_by, takes_retractions, verdict, verdict_by}
use Rattle.pm_model_history.specs.declared.verdict.Verdict.TheVariants.{Take, Ignore}
use Rattle.pm_engine.specs.Meaning.{AreTaken, IsTaken, SpeaksFor}
use Rattle.pm_engine.specs.OfSchema as engine
use Rattle.pm_aggregate.specs.Aggregation.{AreCombined, AreLifted, CanAggregate, Takes}
use Rattle.pm_aggregate.specs.Column.{AreTakenCells, IsOfType, SpeaksForCells}
use Rattle.pm_aggregate.specs.ColumnFunction.{function_by, function_on, meaning_of}
use Rattle.pm_aggregate.specs.Functions.{counting}
use Rattle.pm_aggregate.specs.declared.column_function.ColumnFunction.{ColumnFunction}
use Rattle.pm_aggregate.proofs.CellLemmas.{cells-alone, cells-own, cells-worth, cells_at, fits-type, narrow-counting, narrow-last, narrow-summands, narrow-values, nullable-at, type-fits}
use Rattle.pm_aggregate.proofs.StoredLemmas.{Made, Fits-column, made-speaks, some_last, speaks_both}

-- ---- what a schema's function means

-- the values of the cells that count
counted-values : (s : TableSchema) (c : Column) (i : ℕ) (rows : List HistoryRow) → values_at i (counted s c rows) ≡ values_at 0 (counting (skips_retractions s c) (cells_at i rows))
counted-values s c i rows = narrow-values i (counted s c rows) ∙ ap (values_at 0) (sym (narrow-counting (skips_retractions s c) i rows))

-- the column doesn't skip the rows that retract, where its function takes the first or the last value
abbrev pub MaySkip : Function → TableSchema → Column → Type 0
MaySkip names.LastValue s c = skips_retractions s c ≡ false
MaySkip names.FirstValue s c = skips_retractions s c ≡ false
MaySkip f s c = Unit {0}

-- a column is worth what its function makes of its cells
pub aggregate-cells : (f : Function) (s : TableSchema) (c : Column) (i : ℕ) (rows : List HistoryRow) → MaySkip f s c
    → aggregate_by f s c i (counted s c rows) ≡ (meaning_of (function_by f s c)).value (cells_at i rows)
aggregate-cells names.Sum s c i rows may =
    ap (sum_value (width_of c.kind)) (narrow-summands i (counted s c rows) ∙ ap (filter_map (summand 0)) (sym (narrow-counting (skips_retractions s c) i rows)))
aggregate-cells names.Max s c i rows may = ap (λ vs. extreme_value is_le (non_null vs)) (counted-values s c i rows)
aggregate-cells names.Min s c i rows may = ap (λ vs. extreme_value is_ge (non_null vs)) (counted-values s c i rows)
aggregate-cells names.LastValue s c i rows may = ap (λ b. last_left i (cond b (adding rows) rows)) may ∙ narrow-last i rows
aggregate-cells names.LastNonNullValue s c i rows may = ap (λ vs. last_value (non_null vs)) (counted-values s c i rows)
aggregate-cells names.FirstValue s c i rows may = ap (λ b. first_value (values_at i (cond b (adding rows) rows))) may ∙ ap first_value (narrow-values i rows)
aggregate-cells names.FirstNonNullValue s c i rows may = ap (λ vs. first_value (non_null vs)) (counted-values s c i rows)
aggregate-cells names.ListAgg s c i rows may = ap (λ vs. joined_value (delimiter_of s c) (filter_map text_in vs)) (counted-values s c i rows)
aggregate-cells names.BoolAnd s c i rows may = ap (λ vs. all_value (filter_map truth_in vs)) (counted-values s c i rows)
aggregate-cells names.BoolOr s c i rows may = ap (λ vs. any_value (filter_map truth_in vs)) (counted-values s c i rows)

-- its type is that of the column
kind-is : (f : Function) (s : TableSchema) (c : Column) → (meaning_of (function_by f s c)).kind ≡ c.kind
kind-is names.Sum s c = refl
kind-is names.Max s c = refl
kind-is names.Min s c = refl
kind-is names.LastValue s c = refl
kind-is names.LastNonNullValue s c = refl
kind-is names.FirstValue s c = refl
kind-is names.FirstNonNullValue s c = refl
kind-is names.ListAgg s c = refl
kind-is names.BoolAnd s c = refl
kind-is names.BoolOr s c = refl

or_true : (b : Bool) → (b || true) ≡ true
or_true true = refl
or_true false = refl

-- each function takes a row that adds
takes-adding : (f : Function) (s : TableSchema) (c : Column) → (meaning_of (function_by f s c)).takes false ≡ true
takes-adding names.Sum s c = refl
takes-adding names.Max s c = or_true (skips_retractions s c)
takes-adding names.Min s c = or_true (skips_retractions s c)
takes-adding names.LastValue s c = refl
takes-adding names.LastNonNullValue s c = or_true (skips_retractions s c)
takes-adding names.FirstValue s c = refl
takes-adding names.FirstNonNullValue s c = or_true (skips_retractions s c)
takes-adding names.ListAgg s c = or_true (skips_retractions s c)
takes-adding names.BoolAnd s c = or_true (skips_retractions s c)
takes-adding names.BoolOr s c = or_true (skips_retractions s c)

where_skipped : (b : Bool) → (b || false) ≡ not (not b && true)
where_skipped true = refl
where_skipped false = refl

-- and one that retracts, unless the column refuses it
takes-retracting : (f : Function) (s : TableSchema) (c : Column) → MaySkip f s c
    → (meaning_of (function_by f s c)).takes true ≡ not (not (skips_retractions s c) && not (takes_retractions f))
takes-retracting names.Sum s c may = always (skips_retractions s c)
  where
    always : (b : Bool) → true ≡ not (not b && false)
    always true = refl
    always false = refl
takes-retracting names.LastValue s c may = always (skips_retractions s c)
  where
    always : (b : Bool) → true ≡ not (not b && false)
    always true = refl
    always false = refl
takes-retracting names.FirstValue s c may = ap (λ b. not (not b && true)) (sym may)
takes-retracting names.Max s c may = where_skipped (skips_retractions s c)
takes-retracting names.Min s c may = where_skipped (skips_retractions s c)
takes-retracting names.LastNonNullValue s c may = where_skipped (skips_retractions s c)
takes-retracting names.FirstNonNullValue s c may = where_skipped (skips_retractions s c)
takes-retracting names.ListAgg s c may = where_skipped (skips_retractions s c)
takes-retracting names.BoolAnd s c may = where_skipped (skips_retractions s c)
takes-retracting names.BoolOr s c may = where_skipped (skips_retractions s c)

-- ---- what a schema that can be aggregated promises

map_none : {A B : Type 0} (f : A → B) (o : Option A) → option_map f o ≡ None → o ≡ None
map_none f None e = refl
map_none f (Some x) e = cc

or_false : (o : Option Bool) → unwrap_or o false ≡ true → o ≡ Some true
or_false None e = cc
or_false (Some true) e = refl
or_false (Some false) e = cc

-- a column that skips the rows that retract has no function that takes the first or the last value
no_taker : (fs : Entries Function) (rs : Entries Bool) (name : List ℕ) → find (λ e. e.1 && is_taker (entry_at e.0 fs)) rs ≡ None → entry_at name rs ≡ Some true → is_taker (entry_at name fs) ≡ false
no_taker fs [] name none at = cc
no_taker fs (e ∷ es) name none at =
    let test = e.1 && is_taker (entry_at e.0 fs) in
    elim (bytes_eq e.0 name) as (λ t. bytes_eq e.0 name ≡ t → cond t (Some e.1) (entry_at name es) ≡ Some true → is_taker (entry_at name fs) ≡ false) [
      | true ↦ λ same here.
          let ignores : e.1 ≡ true = cc in
          ap (λ n. is_taker (entry_at n fs)) (sym ((bytes_eq-Decides e.0 name).0 same))
          ∙ ap (λ b. b && is_taker (entry_at e.0 fs)) (sym ignores) ∙ head test none
      | false ↦ λ _ later. no_taker fs es name (tail test none) later
    ] refl at
  where
    head : (b : Bool) → cond b (Some e) (find (λ e. e.1 && is_taker (entry_at e.0 fs)) es) ≡ None → b ≡ false
    head true is = cc
    head false is = refl

    tail : (b : Bool) → cond b (Some e) (find (λ e. e.1 && is_taker (entry_at e.0 fs)) es) ≡ None → find (λ e. e.1 && is_taker (entry_at e.0 fs)) es ≡ None
    tail true is = cc
    tail false is = is

pub may-skip : (s : TableSchema) (c : Column) → CanAggregate s → MaySkip (function_of s c) s c
may-skip s c can = of (entry_at c.name s.options.functions) refl
  where
    none : find (λ e. e.1 && is_taker (entry_at e.0 s.options.functions)) s.options.ignore_retract ≡ None
    none = map_none _ (find (λ e. e.1 && is_taker (entry_at e.0 s.options.functions)) s.options.ignore_retract) can.skips

    refused : (f : Function) → is_taker (Some f) ≡ true → entry_at c.name s.options.functions ≡ Some f → (b : Bool) → skips_retractions s c ≡ b → b ≡ false
    refused f takes is false e = refl
    refused f takes is true e =
        let never : is_taker (entry_at c.name s.options.functions) ≡ false = no_taker s.options.functions s.options.ignore_retract c.name none (or_false (entry_at c.name s.options.ignore_retract) e) in
        let ever : is_taker (entry_at c.name s.options.functions) ≡ true = ap is_taker is ∙ takes in
        cc

    of : (o : Option Function) → entry_at c.name s.options.functions ≡ o → MaySkip (unwrap_or o names.LastNonNullValue) s c
    of None e = tt
    of (Some names.LastValue) e = refused names.LastValue refl e (skips_retractions s c) refl
    of (Some names.FirstValue) e = refused names.FirstValue refl e (skips_retractions s c) refl
    of (Some f) e = tt

-- ---- which rows are taken

not_below : (n m : ℕ) → nat_lt (1 + n) (suc m) ≡ false → nat_lt n m ≡ false
not_below n m e = grind (arith, nat_tests)

some_below : (m : ℕ) → nat_lt 0 (suc m) ≡ true
some_below m = grind (arith, nat_tests)

-- where no item passes, none does
none-passes : {A : Type 0} (p : A → Bool) (xs : List A) (i : ℕ) (x : A) → nat_lt (position_or_len p xs) (length xs) ≡ false → slice_get xs i ≡ Some x → p x ≡ false
none-passes p [] i x none at = cc
none-passes p (y ∷ ys) zero x none at = let same : y ≡ x = cc in ap p (sym same) ∙ first (p y) none
  where
    first : (b : Bool) → nat_lt (cond (not b) (1 + position_or_len p ys) 0) (suc (length ys)) ≡ false → b ≡ false
    first true e = let some = some_below (length ys) in cc
    first false e = refl
none-passes p (y ∷ ys) (suc i) x none at = none-passes p ys i x (rest (p y) none) at
  where
    rest : (b : Bool) → nat_lt (cond (not b) (1 + position_or_len p ys) 0) (suc (length ys)) ≡ false → nat_lt (position_or_len p ys) (length ys) ≡ false
    rest true e = let some = some_below (length ys) in cc
    rest false e = not_below (position_or_len p ys) (length ys) e

position-none : {A : Type 0} (p : A → Bool) (xs : List A) (i : ℕ) (x : A) → position p xs ≡ None → slice_get xs i ≡ Some x → p x ≡ false
position-none p xs i x none at = none-passes p xs i x (of (nat_lt (position_or_len p xs) (length xs)) none) at
  where
    of : (b : Bool) → cond b (Some (position_or_len p xs)) None ≡ None → b ≡ false
    of true e = cc
    of false e = refl

refused-none : (o : Option ℕ) → refused_at o ≡ Take → o ≡ None
refused-none None e = refl
refused-none (Some i) e = cc

not_taken : (b : Bool) (o : Option ℕ) → cond b Ignore (refused_at o) ≡ Take → o ≡ None
not_taken true o e = cc
not_taken false o e = refused-none o e

module _ (s : TableSchema) (is : s.options.engine ≡ Aggregation) (can : CanAggregate s) where
  -- a taken row is taken in each column outside the key
  pub taken-cell : (k : Kind) (i : ℕ) (c : Column) → verdict s k ≡ Take → slice_get s.columns i ≡ Some c → is_key s c ≡ false → (meaning_of (function_by (function_of s c) s c)).takes (retracts k) ≡ true
  taken-cell k i c taken at other = of (retracts k) taken
    where
      nothing : (b : Bool) → (not false && b) ≡ false → not b ≡ true
      nothing true e = cc
      nothing false e = refl

      of : (b : Bool) → cond b (cond s.options.ignore_delete Ignore (verdict_by s.options.engine s)) Take ≡ Take → (meaning_of (function_by (function_of s c) s c)).takes b ≡ true
      of false e = takes-adding (function_of s c) s c
      of true e =
          let by = ap (λ k. cond s.options.ignore_delete Ignore (verdict_by k s)) (sym is) ∙ e in
          let none = not_taken s.options.ignore_delete (position (refuses_retractions s) s.columns) by in
          let not_refused = position-none (refuses_retractions s) s.columns i c none at in
          takes-retracting (function_of s c) s c (may-skip s c can)
          ∙ nothing (not (skips_retractions s c) && not (takes_retractions (function_of s c)))
          (ap (λ b. not b && (not (skips_retractions s c) && not (takes_retractions (function_of s c)))) (sym other) ∙ not_refused)

  taken-cells : (key : Values) (rows : List HistoryRow) (i : ℕ) (c : Column) → AreTaken (engine.meaning_of s) key rows → slice_get s.columns i ≡ Some c → is_key s c ≡ false
      → AreTakenCells (meaning_of (function_by (function_of s c) s c)) (cells_at i rows)
  taken-cells key [] i c all at other = tt
  taken-cells key (r ∷ rows) i c all at other = (
    record {
      of_type = subst (λ k. IsOfType k (value_at r.1 i)) (sym (kind-is (function_of s c) s c)) (fits-type c (value_at r.1 i) (Fits-column s.columns r.1 i c all.0.fits at));
      taken = taken-cell r.0 i c all.0.verdict at other;
    },
    taken-cells key rows i c all.1 at other,
  )

  value-cells : (i : ℕ) (c : Column) (rows : List HistoryRow) → value_by s.options.engine s c i rows ≡ (meaning_of (function_by (function_of s c) s c)).value (cells_at i rows)
  value-cells i c rows = ap (λ k. value_by k s c i rows) is ∙ aggregate-cells (function_of s c) s c i rows (may-skip s c can)

  -- a row is made of others where its value in each column speaks for theirs
  made : (key : Values) (front : List HistoryRow) (q : HistoryRow) (values : Values) → length values ≡ length s.columns
      → ((i : ℕ) (c : Column) → slice_get s.columns i ≡ Some c → is_key s c ≡ true → value_at values i ≡ value_at q.1 i)
      → ((i : ℕ) (c : Column) → slice_get s.columns i ≡ Some c → is_key s c ≡ false → SpeaksForCells (meaning_of (function_by (function_of s c) s c)) (value_at values i) (cells_at i (front ++ q ∷ [])))
      → Made s key (front ++ q ∷ []) q values
  made key front q values size own speaks = record {
    size = size;
    own = own;
    fits = λ i c at other. type-fits c (value_at values i) (nullable-at s i c can.nullable at other)
        (subst (λ k. IsOfType k (value_at values i)) (kind-is (function_of s c) s c) (speaks i c at other).taken.of_type);
    alone = λ i c at other. cells-alone s key i c (meaning_of (function_by (function_of s c) s c)) (value-cells i c) (λ rows all. taken-cells key rows i c all at other) values (front ++ q ∷ []) (speaks i c at other);
    worth = λ i c at other before after one two. cells-worth s key i c (meaning_of (function_by (function_of s c) s c)) (value-cells i c) (λ rows all. taken-cells key rows i c all at other) values (front ++ q ∷ []) before after (speaks i c at other) one two;
  }

  -- the function that stands for a column
  function-at : (functions : List (Option ColumnFunction)) → functions ≡ map (function_on s) s.columns → (i : ℕ) (c : Column) → slice_get s.columns i ≡ Some c → slice_get functions i ≡ Some (function_on s c)
  function-at functions are i c at = ap (λ fs. slice_get fs i) are ∙ slice_get-map (function_on s) s.columns i ∙ ap (option_map (function_on s)) at

  key-at : (functions : List (Option ColumnFunction)) → functions ≡ map (function_on s) s.columns → (i : ℕ) (c : Column) → slice_get s.columns i ≡ Some c → is_key s c ≡ true → slice_get functions i ≡ Some None
  key-at functions are i c at own = function-at functions are i c at ∙ ap (λ b. Some (cond b None (Some (function_by (function_of s c) s c)))) own

  other-at : (functions : List (Option ColumnFunction)) → functions ≡ map (function_on s) s.columns → (i : ℕ) (c : Column) → slice_get s.columns i ≡ Some c → is_key s c ≡ false → slice_get functions i ≡ Some (Some (function_by (function_of s c) s c))
  other-at functions are i c at other = function-at functions are i c at ∙ ap (λ b. Some (cond b None (Some (function_by (function_of s c) s c)))) other

  same-size : (functions : List (Option ColumnFunction)) → functions ≡ map (function_on s) s.columns → length functions ≡ length s.columns
  same-size functions are = ap length are ∙ length-map s.columns (function_on s)

  each-shows : (rows : List HistoryRow) → shows s rows ≡ is_some (last_or None rows)
  each-shows rows = ap (λ k. shows_by k rows) is

  stores-insert : IsTrue (stores s Insert)
  stores-insert = ap (λ k. stores_by k Insert) is

  -- the row that is made of a taken one speaks for it
  pub lifts : (functions : List (Option ColumnFunction)) (k : Kind) (row stored : Values) → functions ≡ map (function_on s) s.columns → verdict s k ≡ Take → Fits s.columns row
      → AreLifted functions k row stored → SpeaksFor (engine.meaning_of s) (key_of (engine.meaning_of s).primary row) (Insert, stored) ((k, row) ∷ [])
  lifts functions k row stored are taken fits lifted =
      let key = key_of (engine.meaning_of s).primary row in
      let itself : IsTaken (engine.meaning_of s) key (k, row) = record { fits = fits; verdict = taken; of_key = refl } in
      made-speaks s key each-shows stores-insert [] (k, row) stored (itself, tt) itself
      (made key [] (k, row) stored (lifted.size ∙ same-size functions are)
      (λ i c at own. lifted.each i None (key-at functions are i c at own))
      (λ i c at other. lifted.each i (Some (function_by (function_of s c) s c)) (other-at functions are i c at other)
      (subst (λ t. IsOfType t (value_at row i)) (sym (kind-is (function_of s c) s c)) (fits-type c (value_at row i) (Fits-column s.columns row i c fits at)))))

  kind-stored : (k : Kind) → IsTrue (stores s k) → k ≡ Insert
  kind-stored k stored = of k (ap (λ e. stores_by e k) (sym is) ∙ stored)
    where
      of : (k : Kind) → stores_by Aggregation k ≡ true → k ≡ Insert
      of Insert e = refl
      of k e = cc

  -- a stored value speaks for itself
  own-cell : (key : Values) (r : HistoryRow) (x : List HistoryRow) (i : ℕ) (c : Column) → SpeaksFor (engine.meaning_of s) key r x → slice_get s.columns i ≡ Some c → is_key s c ≡ false
      → SpeaksForCells (meaning_of (function_by (function_of s c) s c)) (value_at r.1 i) ((Insert, value_at r.1 i) ∷ [])
  own-cell key r x i c speaks at other =
      cells-own s key i c (meaning_of (function_by (function_of s c) s c)) (value-cells i c) (λ rows all. taken-cells key rows i c all at other) r x at other (kind-stored r.0 speaks.kind) speaks

  -- the row that is made of two stored ones speaks for what both speak for
  pub combines : (functions : List (Option ColumnFunction)) (key : Values) (older newer : HistoryRow) (x y : List HistoryRow) (stored : Values) → functions ≡ map (function_on s) s.columns
      → AreCombined functions older.1 newer.1 stored → SpeaksFor (engine.meaning_of s) key older x → SpeaksFor (engine.meaning_of s) key newer y → SpeaksFor (engine.meaning_of s) key (Insert, stored) (x ++ y)
  combines functions key older newer x y stored are combined one two =
      speaks_both (engine.meaning_of s) key older newer (Insert, stored) x y one two
      (made-speaks s key each-shows stores-insert (older ∷ []) newer stored (one.taken, (two.taken, tt)) two.taken
      (made key (older ∷ []) newer stored (combined.size ∙ same-size functions are)
      (λ i c at own. combined.each i None (key-at functions are i c at own))
      (λ i c at other.
      let m = meaning_of (function_by (function_of s c) s c) in
      let both = combined.each i (Some (function_by (function_of s c) s c)) (other-at functions are i c at other) ((Insert, value_at older.1 i) ∷ []) ((Insert, value_at newer.1 i) ∷ [])
      (own-cell key older x i c one at other) (own-cell key newer y i c two at other) in
      subst (λ (k : Kind). SpeaksForCells m (value_at stored i) ((k, value_at older.1 i) ∷ (newer.0, value_at newer.1 i) ∷ [])) (sym (kind-stored older.0 one.kind))
      (subst (λ (k : Kind). SpeaksForCells m (value_at stored i) ((Insert, value_at older.1 i) ∷ (k, value_at newer.1 i) ∷ [])) (sym (kind-stored newer.0 two.kind)) both))))

  -- rows show
  pub shows-some : (rows : List HistoryRow) → rows ≢ [] → true ≡ shows s rows
  shows-some [] some = absurd (some refl)
  shows-some (r ∷ rows) some = sym (each-shows (r ∷ rows) ∙ some_last None r rows)

  -- no stored row is left out
  pub drops-none : (r : HistoryRow) → false ≡ engine.drops_by s.options.engine r
  drops-none r = sym (ap (λ k. engine.drops_by k r) is)

  -- each function takes a taken row
  pub takes-all : (functions : List (Option ColumnFunction)) (k : Kind) → functions ≡ map (function_on s) s.columns → verdict s k ≡ Take → All (Takes k) functions
  takes-all functions k are taken = λ n d below.
      elim (slice_get s.columns n) as (λ o. slice_get s.columns n ≡ o → Takes k (get_or functions n d)) [
        | Some c ↦ λ at.
            let here : get_or functions n d ≡ function_on s c = get_or_from_slice_get functions n (function_on s c) d (function-at functions are n c at) in
            subst (Takes k) (sym here) (elim (is_key s c) as (λ b. is_key s c ≡ b → Takes k (cond b None (Some (function_by (function_of s c) s c)))) [
              | true ↦ λ own. tt
              | false ↦ λ other. taken-cell k n c taken at other
            ] refl)
        | None ↦ λ none.
            let gone : slice_get functions n ≡ None = ap (λ fs. slice_get fs n) are ∙ slice_get-map (function_on s) s.columns n ∙ ap (option_map (function_on s)) none in
            let there : slice_get functions n ≡ Some (get_or functions n d) = slice_get-get_or functions n d below in
            cc
      ] refl
