-- The rows that are told fit the columns of their table.
use Rattle.std.proofs.Common.{◌≡◌, ℕ, zero, suc, ◌+◌, ◌&&◌, ◌||◌, not, Bool, true, false, IsTrue, ℤ, ◌+ℤ◌, neg_ℤ, List, [], ◌∷◌, ◌++◌, length, map, Option, None, Some, option_map, refl, sym, ap, subst, cond, ◌∙◌, ◌==◌, arith, slice_get}
use Rattle.std.specs.FinMap.{get}
use Rattle.std.specs.Int.{w8, w16, w32, w64, int_wrap}
use Rattle.std.specs.List.{AllByRecursion, cons_option, filter, filter_map, find, flat_map, last_or, list_all, list_any, range_with_len}
use Rattle.std.specs.Option.{option_map_or, unwrap_or}
use Rattle.std.specs.Ordering.{eq_by_cmp, is_ge, is_le}
use Rattle.std.specs.Prelude.{IsUtf8}
use Rattle.std.proofs.lemmas.Int.{SFits-int_wrap}
use Rattle.std.proofs.lemmas.Str.{IsUtf8-append, IsUtf8-nil}
use Rattle.pm_base.proofs.Laws.{AllByRecursion-append}
use Rattle.pm_options.specs.declared.kinds.EngineKind.{EngineKind}
use Rattle.pm_options.specs.declared.kinds.EngineKind.TheVariants as engines
use Rattle.pm_options.specs.declared.kinds.Function.{Function}
use Rattle.pm_options.specs.declared.kinds.Function.TheVariants as functions
use Rattle.pm_schema.specs.Rules.{is_among, nulls_hold_by}
use Rattle.pm_schema.specs.declared.schema.TableSchema.{TableSchema}
use Rattle.pm_values.specs.Fits.{Fits, FitsColumn, IsInType}
use Rattle.pm_values.specs.Kind.{retracts}
use Rattle.pm_values.specs.Order.{Values, key_cmp, value_cmp}
use Rattle.pm_values.specs.declared.column.ColType.{ColType}
use Rattle.pm_values.specs.declared.column.ColType.TheVariants as types
use Rattle.pm_values.specs.declared.column.Column.{Column}
use Rattle.pm_values.specs.declared.kind.Kind.{Kind}
use Rattle.pm_values.specs.declared.kind.Kind.TheVariants.{UpdateAfter, UpdateBefore}
use Rattle.pm_values.specs.declared.value.Value.{Value}
use Rattle.pm_values.specs.declared.value.Value.TheVariants.{Null, Bool as Truth, Int, Text}
use Rattle.pm_model_history.specs.ColumnValue as worth
use Rattle.pm_model_history.specs.ColumnValue.{SequenceGroup, adding, aggregate_by, all_value, any_value, column_value, counted, delimiter_of, first_value, group_of, index_of, integer_in}
use Rattle.pm_model_history.specs.ColumnValue.{is_leading, is_null, joined_value, last_value, left_by, non_null, sum_value, summand, text_in, total, truth_in, updated_value, value_by, value_in, values_at, width_of}
use Rattle.pm_model_history.specs.Merge.{AllFit, HistoryRow, key_of, rows_of, value_at}
use Rattle.pm_model_history.specs.Merged.{merged, merged_row, primary_of, shows, shows_by, values_of}
use Rattle.pm_model_history.specs.Taken.{function_of, is_key, skips_retractions}
use Rattle.pm_model_following.specs.Following.{told}

-- ---- lists

all_filtered : {X : Type 0} (P : X → Type 0) (p : X → Bool) (xs : List X) → AllByRecursion P xs → AllByRecursion P (filter p xs)
all_filtered P p [] all = tt
all_filtered P p (x ∷ xs) all =
    elim (p x) as (λ b. AllByRecursion P (cond b (x ∷ filter p xs) (filter p xs))) [
      | true ↦ (all.0, all_filtered P p xs all.1)
      | false ↦ all_filtered P p xs all.1
    ]

weaker : {X : Type 0} (P Q : X → Type 0) → ((x : X) → P x → Q x) → (xs : List X) → AllByRecursion P xs → AllByRecursion Q xs
weaker P Q so [] all = tt
weaker P Q so (x ∷ xs) all = (so x all.0, weaker P Q so xs all.1)

-- ---- a row by its columns

at_column : (columns : List Column) (values : Values) (i : ℕ) (c : Column) → Fits columns values → slice_get columns i ≡ Some c → FitsColumn c (value_at values i)
at_column [] [] i c fits at = cc
at_column [] (v ∷ vs) i c fits at = absurd fits
at_column (d ∷ ds) [] i c fits at = absurd fits
at_column (d ∷ ds) (v ∷ vs) zero c fits at = let same : d ≡ c = cc in subst (λ (x : Column). FitsColumn x v) same fits.0
at_column (d ∷ ds) (v ∷ vs) (suc i) c fits at = at_column ds vs i c fits.1 at

from_columns : (columns : List Column) (g : ℕ → Value) (k : ℕ) → ((i : ℕ) (c : Column) → slice_get columns i ≡ Some c → FitsColumn c (g (k + i)))
    → Fits columns (map g (range_with_len k (length columns)))
from_columns [] g k each = tt
from_columns (c ∷ columns) g k each =
    let here : k + 0 ≡ k = omega arith in
    let next : (i : ℕ) → k + suc i ≡ (k + 1) + i = λ i. omega arith in (
      subst (λ n. FitsColumn c (g n)) here (each 0 c refl),
      from_columns columns g (k + 1) (λ i d at. subst (λ n. FitsColumn d (g n)) (next i) (each (suc i) d at)),
    )

column_at : (columns : List Column) (i : ℕ) (c : Column) (rows : List HistoryRow) → slice_get columns i ≡ Some c → AllFit columns rows
    → AllByRecursion (FitsColumn c) (values_at i rows)
column_at columns i c [] at all = tt
column_at columns i c (r ∷ rows) at all = (at_column columns r.1 i c all.0 at, column_at columns i c rows at all.1)

-- ---- a column that is nullable

both_left : (a b : Bool) → (a && b) ≡ true → a ≡ true
both_left true b e = refl
both_left false b e = e

both_right : (a b : Bool) → (a && b) ≡ true → b ≡ true
both_right true b e = e
both_right false b e = cc

one_of_two : (a b : Bool) → (a || b) ≡ true → b ≡ false → IsTrue a
one_of_two true b e none = refl
one_of_two false b e none = cc

nullable : (primary : List (List ℕ)) (columns : List Column) (i : ℕ) (c : Column) → list_all (λ (d : Column). d.nullable || is_among primary d.name) columns ≡ true
    → slice_get columns i ≡ Some c → is_among primary c.name ≡ false → IsTrue c.nullable
nullable primary [] i c all at other = cc
nullable primary (d ∷ ds) zero c all at other =
    let same : d ≡ c = cc in
    let rest = list_all (λ (d : Column). d.nullable || is_among primary d.name) ds in
    one_of_two c.nullable (is_among primary c.name) (subst (λ (x : Column). (x.nullable || is_among primary x.name) ≡ true) same (both_left (d.nullable || is_among primary d.name) rest all)) other
nullable primary (d ∷ ds) (suc i) c all at other =
    nullable primary ds i c (both_right (d.nullable || is_among primary d.name) (list_all (λ (d : Column). d.nullable || is_among primary d.name) ds) all) at other

-- ---- one of values, or null

last_kept : (P : Value → Type 0) (o : Option Value) (vs : Values) → P (unwrap_or o Null) → AllByRecursion P vs → P (unwrap_or (last_or o vs) Null)
last_kept P o [] one all = one
last_kept P o (v ∷ vs) one all = last_kept P (Some v) vs all.0 all.1

last_made : {X : Type 0} (P : Value → Type 0) (make : X → Value) (o : Option X) (xs : List X) → P (option_map_or make o Null) → AllByRecursion (λ x. P (make x)) xs
    → P (option_map_or make (last_or o xs) Null)
last_made P make o [] one all = one
last_made P make o (x ∷ xs) one all = last_made P make (Some x) xs all.0 all.1

first_kept : (P : Value → Type 0) (vs : Values) → P Null → AllByRecursion P vs → P (first_value vs)
first_kept P [] null all = null
first_kept P (v ∷ vs) null all = all.0

found_kept : (P : Value → Type 0) (p : Value → Bool) (vs : Values) → P Null → AllByRecursion P vs → P (unwrap_or (find p vs) Null)
found_kept P p [] null all = null
found_kept P p (v ∷ vs) null all =
    elim (p v) as (λ b. P (unwrap_or (cond b (Some v) (find p vs)) Null)) [ true ↦ all.0 | false ↦ found_kept P p vs null all.1 ]

-- ---- what is made of values

integer_type : (kind : ColType) (n m : ℤ) → IsInType kind (Int n) → IsInType kind (Int (int_wrap (width_of kind) m))
integer_type types.TinyInt n m is = SFits-int_wrap w8 m
integer_type types.SmallInt n m is = SFits-int_wrap w16 m
integer_type types.Int n m is = SFits-int_wrap w32 m
integer_type types.BigInt n m is = SFits-int_wrap w64 m
integer_type kind n m is = absurd is

sum_step : (c : Column) (v : Value) (k : Kind) (ns : List ℤ) → FitsColumn c v → FitsColumn c (sum_value (width_of c.kind) ns)
    → FitsColumn c (sum_value (width_of c.kind) (cons_option (option_map (λ n. cond (retracts k) (neg_ℤ n) n) (integer_in v)) ns))
sum_step c (Int n) k ns fits then = integer_type c.kind n (cond (retracts k) (neg_ℤ n) n +ℤ total ns) fits
sum_step c v k ns fits then = then

sum_fits : (c : Column) (i : ℕ) (rows : List HistoryRow) → FitsColumn c Null → AllByRecursion (FitsColumn c) (values_at i rows)
    → FitsColumn c (sum_value (width_of c.kind) (filter_map (summand i) rows))
sum_fits c i [] null all = null
sum_fits c i (r ∷ rows) null all = sum_step c (value_at r.1 i) r.0 (filter_map (summand i) rows) all.0 (sum_fits c i rows null all.1)

truth_type : (kind : ColType) (a b : Bool) → IsInType kind (Truth a) → IsInType kind (Truth b)
truth_type types.Boolean a b is = tt
truth_type kind a b is = absurd is

truth_step : (c : Column) (of : Bool → List Bool → Bool) (value : List Bool → Value) → ((b : Bool) (bs : List Bool) → value (b ∷ bs) ≡ Truth (of b bs)) → (v : Value) (bs : List Bool)
    → FitsColumn c v → FitsColumn c (value bs) → FitsColumn c (value (cons_option (truth_in v) bs))
truth_step c of value is (Truth b) bs fits then = subst (FitsColumn c) (sym (is b bs)) (truth_type c.kind b (of b bs) fits)
truth_step c of value is v bs fits then = then

truth_fits : (c : Column) (of : Bool → List Bool → Bool) (value : List Bool → Value) → ((b : Bool) (bs : List Bool) → value (b ∷ bs) ≡ Truth (of b bs)) → FitsColumn c (value [])
    → (vs : Values) → AllByRecursion (FitsColumn c) vs → FitsColumn c (value (filter_map truth_in vs))
truth_fits c of value is null [] all = null
truth_fits c of value is null (v ∷ vs) all = truth_step c of value is v (filter_map truth_in vs) all.0 (truth_fits c of value is null vs all.1)

text_type : (kind : ColType) (t u : List ℕ) → IsInType kind (Text t) → (IsUtf8 t → IsUtf8 u) → IsInType kind (Text u)
text_type types.Text t u is so = so is
text_type kind t u is so = absurd is

text_is : (kind : ColType) (t : List ℕ) → IsInType kind (Text t) → IsUtf8 t
text_is types.Text t is = is
text_is kind t is = absurd is

texts_in : (c : Column) (vs : Values) → AllByRecursion (FitsColumn c) vs → AllByRecursion IsUtf8 (filter_map text_in vs)
texts_in c [] all = tt
texts_in c (v ∷ vs) all = step v (filter_map text_in vs) all.0 (texts_in c vs all.1)
  where
    step : (v : Value) (ts : List (List ℕ)) → FitsColumn c v → AllByRecursion IsUtf8 ts → AllByRecursion IsUtf8 (cons_option (text_in v) ts)
    step (Text t) ts fits all = (text_is c.kind t fits, all)
    step v ts fits all = all

tail_joined : (d : List ℕ) (ts : List (List ℕ)) → IsUtf8 d → AllByRecursion IsUtf8 ts → IsUtf8 (flat_map (λ t. d ++ t) ts)
tail_joined d [] fine all = IsUtf8-nil
tail_joined d (t ∷ ts) fine all = IsUtf8-append (d ++ t) (flat_map (λ t. d ++ t) ts) (IsUtf8-append d t fine all.0) (tail_joined d ts fine all.1)

joined_step : (c : Column) (d : List ℕ) (v : Value) (ts : List (List ℕ)) → IsUtf8 d → FitsColumn c v → AllByRecursion IsUtf8 ts → FitsColumn c (joined_value d ts)
    → FitsColumn c (joined_value d (cons_option (text_in v) ts))
joined_step c d (Text t) ts fine fits all then =
    text_type c.kind t (t ++ flat_map (λ t. d ++ t) ts) fits (λ is. IsUtf8-append t (flat_map (λ t. d ++ t) ts) is (tail_joined d ts fine all))
joined_step c d v ts fine fits all then = then

joined_fits : (c : Column) (d : List ℕ) (vs : Values) → IsUtf8 d → FitsColumn c Null → AllByRecursion (FitsColumn c) vs
    → FitsColumn c (joined_value d (filter_map text_in vs))
joined_fits c d [] fine null all = null
joined_fits c d (v ∷ vs) fine null all =
    joined_step c d v (filter_map text_in vs) fine all.0 (texts_in c vs all.1) (joined_fits c d vs fine null all.1)

-- ---- a column's value over rows that fit

module _ (s : TableSchema) (i : ℕ) (c : Column) (at : slice_get s.columns i ≡ Some c) where
  left_fits : FitsColumn c Null → (b : HistoryRow → Bool) (rows : List HistoryRow) → AllFit s.columns rows
      → AllByRecursion (λ (r : HistoryRow). FitsColumn c (cond (b r) Null (value_at r.1 i))) rows
  left_fits null b rows all =
      weaker (λ (r : HistoryRow). Fits s.columns r.1) (λ (r : HistoryRow). FitsColumn c (cond (b r) Null (value_at r.1 i)))
      (λ r fits. elim (b r) as (λ t. FitsColumn c (cond t Null (value_at r.1 i))) [ true ↦ null | false ↦ at_column s.columns r.1 i c fits at ]) rows all

  updated_fits : FitsColumn c Null → (group : Option SequenceGroup) (rows : List HistoryRow) → AllFit s.columns rows → FitsColumn c (updated_value s i group rows)
  updated_fits null None rows all =
      let own = all_filtered (λ (r : HistoryRow). Fits s.columns r.1) (λ (r : HistoryRow). not (retracts r.0)) rows all in
      last_kept (FitsColumn c) None (non_null (values_at i (adding rows))) null
      (all_filtered (FitsColumn c) (λ v. not (is_null v)) (values_at i (adding rows)) (column_at s.columns i c (adding rows) at own))
  updated_fits null (Some group) rows all =
      let lead = index_of s group.0 in
      let own = all_filtered (λ (r : HistoryRow). Fits s.columns r.1) (is_leading lead rows) rows all in
      last_made (FitsColumn c) (left_by lead i) None (filter (is_leading lead rows) rows) null
      (left_fits null (λ (r : HistoryRow). retracts r.0 && not (i == lead)) (filter (is_leading lead rows) rows) own)

  aggregate_fits : FitsColumn c Null → (f : Function) → (f ≡ functions.ListAgg → IsUtf8 (delimiter_of s c)) → (rows : List HistoryRow) → AllFit s.columns rows → FitsColumn c (aggregate_by f s c i rows)
  aggregate_fits null functions.Sum fine rows all = sum_fits c i rows null (column_at s.columns i c rows at all)
  aggregate_fits null functions.Max fine rows all =
      let vs = non_null (values_at i rows) in
      found_kept (FitsColumn c) (λ value. list_all (λ other. is_le (value_cmp other value)) vs) vs null
      (all_filtered (FitsColumn c) (λ v. not (is_null v)) (values_at i rows) (column_at s.columns i c rows at all))
  aggregate_fits null functions.Min fine rows all =
      let vs = non_null (values_at i rows) in
      found_kept (FitsColumn c) (λ value. list_all (λ other. is_ge (value_cmp other value)) vs) vs null
      (all_filtered (FitsColumn c) (λ v. not (is_null v)) (values_at i rows) (column_at s.columns i c rows at all))
  aggregate_fits null functions.LastValue fine rows all =
      last_made (FitsColumn c) (λ (r : HistoryRow). cond (retracts r.0) Null (value_at r.1 i)) None rows null (left_fits null (λ (r : HistoryRow). retracts r.0) rows all)
  aggregate_fits null functions.LastNonNullValue fine rows all =
      last_kept (FitsColumn c) None (non_null (values_at i rows)) null
      (all_filtered (FitsColumn c) (λ v. not (is_null v)) (values_at i rows) (column_at s.columns i c rows at all))
  aggregate_fits null functions.FirstValue fine rows all = first_kept (FitsColumn c) (values_at i rows) null (column_at s.columns i c rows at all)
  aggregate_fits null functions.FirstNonNullValue fine rows all =
      first_kept (FitsColumn c) (non_null (values_at i rows)) null
      (all_filtered (FitsColumn c) (λ v. not (is_null v)) (values_at i rows) (column_at s.columns i c rows at all))
  aggregate_fits null functions.ListAgg fine rows all = joined_fits c (delimiter_of s c) (values_at i rows) (fine refl) null (column_at s.columns i c rows at all)
  aggregate_fits null functions.BoolAnd fine rows all =
      truth_fits c (λ b bs. list_all (λ t. t) (b ∷ bs)) all_value (λ b bs. refl) null (values_at i rows) (column_at s.columns i c rows at all)
  aggregate_fits null functions.BoolOr fine rows all =
      truth_fits c (λ b bs. list_any (λ t. t) (b ∷ bs)) any_value (λ b bs. refl) null (values_at i rows) (column_at s.columns i c rows at all)

  counted_fit : (b : Bool) (rows : List HistoryRow) → AllFit s.columns rows → AllFit s.columns (cond b (adding rows) rows)
  counted_fit true rows all = all_filtered (λ (r : HistoryRow). Fits s.columns r.1) (λ (r : HistoryRow). not (retracts r.0)) rows all
  counted_fit false rows all = all

  engine_fits : (e : EngineKind) (r : HistoryRow) (rows : List HistoryRow) → is_key s c ≡ false → IsTrue (nulls_hold_by e s) → (e ≡ engines.Aggregation → function_of s c ≡ functions.ListAgg → IsUtf8 (delimiter_of s c))
      → AllFit s.columns (r ∷ rows) → FitsColumn c (value_by e s c i (r ∷ rows))
  engine_fits engines.Deduplicate r rows other can fine all =
      last_kept (FitsColumn c) (Some (value_at r.1 i)) (values_at i rows) (at_column s.columns r.1 i c all.0 at) (column_at s.columns i c rows at all.1)
  engine_fits engines.FirstRow r rows other can fine all = at_column s.columns r.1 i c all.0 at
  engine_fits engines.PartialUpdate r rows other can fine all =
      updated_fits (nullable s.primary s.columns i c can at other) (group_of s c) (r ∷ rows) all
  engine_fits engines.Aggregation r rows other can fine all =
      aggregate_fits (nullable s.primary s.columns i c can at other) (function_of s c) (fine refl) (counted s c (r ∷ rows))
      (counted_fit (skips_retractions s c) (r ∷ rows) all)

  column_is : (rows : List HistoryRow) → column_value s i rows ≡ value_in s i rows c
  unfolding worth.column_value
  column_is rows = ap (λ o. option_map_or (value_in s i rows) o Null) at

  column_fits : (r : HistoryRow) (rows : List HistoryRow) → IsTrue (nulls_hold_by s.options.engine s) → (s.options.engine ≡ engines.Aggregation → function_of s c ≡ functions.ListAgg → IsUtf8 (delimiter_of s c))
      → AllFit s.columns (r ∷ rows) → FitsColumn c (column_value s i (r ∷ rows))
  column_fits r rows can fine all =
      subst (FitsColumn c) (sym (column_is (r ∷ rows)))
      (elim (is_key s c) as (λ b. is_key s c ≡ b → FitsColumn c (cond b (last_value (values_at i (r ∷ rows))) (value_by s.options.engine s c i (r ∷ rows)))) [
        | true ↦ λ own. last_kept (FitsColumn c) (Some (value_at r.1 i)) (values_at i rows) (at_column s.columns r.1 i c all.0 at) (column_at s.columns i c rows at all.1)
        | false ↦ λ other. engine_fits s.options.engine r rows other can fine all
      ] refl)

-- ---- rows that are shown, and told

none_shows : (e : EngineKind) → shows_by e [] ≡ false
none_shows engines.Deduplicate = refl
none_shows engines.PartialUpdate = refl
none_shows engines.Aggregation = refl
none_shows engines.FirstRow = refl

-- a row, where there is one, fits
abbrev pub MayFit : List Column → Option Values → Type 0
MayFit columns o = (row : Values) → o ≡ Some row → Fits columns row

told_fit : (columns : List Column) (out : Bool) (old new : Option Values) → MayFit columns old → MayFit columns new → AllFit columns (told out old new)
told_fit columns out None None one two = tt
told_fit columns out None (Some new) one two = (two new refl, tt)
told_fit columns out (Some old) None one two = (one old refl, tt)
told_fit columns out (Some old) (Some new) one two =
    elim (out && eq_by_cmp key_cmp old new) as (λ b. AllFit columns (cond b [] ((UpdateBefore, old) ∷ (UpdateAfter, new) ∷ []))) [
      | true ↦ tt
      | false ↦ (one old refl, (two new refl, tt))
    ]

module _ (s : TableSchema) (can : IsTrue (nulls_hold_by s.options.engine s)) (fine : s.options.engine ≡ engines.Aggregation → (c : Column) → function_of s c ≡ functions.ListAgg → IsUtf8 (delimiter_of s c)) where
  shown_fits : (own : List HistoryRow) → AllFit s.columns own → MayFit s.columns (cond (shows s own) (Some (values_of s own)) None)
  shown_fits [] all row is =
      let none : None ≡ Some row = ap (λ b. cond b (Some (values_of s [])) None) (sym (none_shows s.options.engine)) ∙ is in cc
  shown_fits (r ∷ rows) all row is =
      let first : (i : ℕ) → i ≡ 0 + i = λ i. omega arith in
      let fits : Fits s.columns (values_of s (r ∷ rows)) =
      from_columns s.columns (λ index. column_value s index (r ∷ rows)) 0
      (λ i c at. subst (λ n. FitsColumn c (column_value s n (r ∷ rows))) (first i) (column_fits s i c at r rows can (λ is. fine is c) all)) in
      elim (shows s (r ∷ rows)) as (λ b. cond b (Some (values_of s (r ∷ rows))) None ≡ Some row → Fits s.columns row) [
        | true ↦ λ e. subst (Fits s.columns) (ap (λ o. unwrap_or o row) e) fits
        | false ↦ λ e. cc
      ] is

  pub merged_fits : ((rows : List HistoryRow) (key : Values) → get (merged s rows) key ≡ merged_row s rows key) → (rows : List HistoryRow) (key : Values) → AllFit s.columns rows
      → MayFit s.columns (get (merged s rows) key)
  merged_fits merges rows key all row is =
      shown_fits (rows_of (primary_of s) key rows)
      (all_filtered (λ (r : HistoryRow). Fits s.columns r.1) (λ (r : HistoryRow). eq_by_cmp key_cmp key (key_of (primary_of s) r.1)) rows all) row (sym (merges rows key) ∙ is)

pub changes_fit : (s : TableSchema) (out : Bool) (before after : Values → Option Values) → ((key : Values) → MayFit s.columns (before key)) → ((key : Values) → MayFit s.columns (after key))
    → (keys : List Values) → AllFit s.columns (flat_map (λ key. told out (before key) (after key)) keys)
changes_fit s out before after one two [] = tt
changes_fit s out before after one two (key ∷ keys) =
    AllByRecursion-append (λ (r : HistoryRow). Fits s.columns r.1) (told out (before key) (after key)) (flat_map (λ key. told out (before key) (after key)) keys)
    (told_fit s.columns out (before key) (after key) (one key) (two key)) (changes_fit s out before after one two keys)
