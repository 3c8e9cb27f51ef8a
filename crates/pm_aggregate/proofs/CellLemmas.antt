-- The rows of a key in one column are cells: what a stored value that speaks for cells of a column is worth there.
use Rattle.std.proofs.Common.{◌≡◌, ℕ, zero, suc, List, [], ◌∷◌, ◌++◌, map, Bool, true, false, not, ◌||◌, ◌&&◌, cond, Option, Some, None, refl, sym, ap, subst, ◌∙◌, slice_get}
use Rattle.std.specs.List.{cons_option, filter_map, last_or, list_all}
use Rattle.std.specs.Option.{option_map_or}
use Rattle.std.proofs.lemmas.List.{map-append}
use Rattle.pm_schema.specs.Rules.{is_among, may_be_null}
use Rattle.pm_schema.specs.declared.schema.TableSchema.{TableSchema}
use Rattle.pm_values.specs.Fits.{FitsColumn}
use Rattle.pm_values.specs.Kind.{retracts}
use Rattle.pm_values.specs.Order.{Values}
use Rattle.pm_values.specs.declared.column.Column.{Column}
use Rattle.pm_values.specs.declared.kind.Kind.{Kind}
use Rattle.pm_values.specs.declared.kind.Kind.TheVariants.{Insert}
use Rattle.pm_values.specs.declared.value.Value.{Value}
use Rattle.pm_values.specs.declared.value.Value.TheVariants.{Null}
use Rattle.pm_model_history.specs.ColumnValue as worth
use Rattle.pm_model_history.specs.ColumnValue.{adding, column_value, last_left, last_value, summand, value_by, value_in, values_at}
use Rattle.pm_model_history.specs.Merge.{HistoryRow, value_at}
use Rattle.pm_model_history.specs.Taken.{is_key}
use Rattle.pm_engine.specs.Meaning.{AreTaken, SpeaksFor}
use Rattle.pm_engine.specs.OfSchema as engine
use Rattle.pm_aggregate.specs.Column.{AreTakenCells, Cell, ColumnMeaning, IsOfType, IsTakenCell, SpeaksForCells, rows_of}
use Rattle.pm_aggregate.specs.Functions.{counting}

-- ---- the cells of a column

abbrev pub cells_at : ℕ → List HistoryRow → List Cell
cells_at i rows = map (λ (r : HistoryRow). (r.0, value_at r.1 i)) rows

pub narrow-values : (i : ℕ) (rows : List HistoryRow) → values_at i rows ≡ values_at 0 (rows_of (cells_at i rows))
narrow-values i [] = refl
narrow-values i (r ∷ rows) = ap (λ vs. value_at r.1 i ∷ vs) (narrow-values i rows)

pub narrow-summands : (i : ℕ) (rows : List HistoryRow) → filter_map (summand i) rows ≡ filter_map (summand 0) (rows_of (cells_at i rows))
narrow-summands i [] = refl
narrow-summands i (r ∷ rows) = ap (cons_option (summand i r)) (narrow-summands i rows)

pub narrow-last : (i : ℕ) (rows : List HistoryRow) → last_left i rows ≡ last_left 0 (rows_of (cells_at i rows))
narrow-last i rows = of None None refl rows
  where
    left : ℕ → Option HistoryRow → Value
    left i o = option_map_or (λ (r : HistoryRow). cond (retracts r.0) Null (value_at r.1 i)) o Null

    of : (o p : Option HistoryRow) → left i o ≡ left 0 p → (rows : List HistoryRow) → left i (last_or o rows) ≡ left 0 (last_or p (rows_of (cells_at i rows)))
    of o p same [] = same
    of o p same (r ∷ rows) = of (Some r) (Some (r.0, value_at r.1 i ∷ [])) refl rows

pub narrow-adding : (i : ℕ) (rows : List HistoryRow) → adding (rows_of (cells_at i rows)) ≡ rows_of (cells_at i (adding rows))
narrow-adding i [] = refl
narrow-adding i (r ∷ rows) = step (retracts r.0) (narrow-adding i rows)
  where
    step : (b : Bool) → adding (rows_of (cells_at i rows)) ≡ rows_of (cells_at i (adding rows))
        → cond (not b) ((r.0, value_at r.1 i ∷ []) ∷ adding (rows_of (cells_at i rows))) (adding (rows_of (cells_at i rows))) ≡ rows_of (cells_at i (cond (not b) (r ∷ adding rows) (adding rows)))
    step true e = e
    step false e = ap (λ rest. (r.0, value_at r.1 i ∷ []) ∷ rest) e

pub narrow-counting : (b : Bool) (i : ℕ) (rows : List HistoryRow) → counting b (cells_at i rows) ≡ rows_of (cells_at i (cond b (adding rows) rows))
narrow-counting true i rows = narrow-adding i rows
narrow-counting false i rows = refl

pub cells_at-append : (i : ℕ) (xs ys : List HistoryRow) → cells_at i (xs ++ ys) ≡ cells_at i xs ++ cells_at i ys
cells_at-append i xs ys = map-append (λ (r : HistoryRow). (r.0, value_at r.1 i)) xs ys

pub list_all-at : {A : Type 0} (p : A → Bool) (xs : List A) (i : ℕ) (x : A) → list_all p xs ≡ true → slice_get xs i ≡ Some x → p x ≡ true
list_all-at p [] i x all at = cc
list_all-at p (y ∷ ys) zero x all at = let same : y ≡ x = cc in ap p (sym same) ∙ left (p y) (list_all p ys) all
  where
    left : (a b : Bool) → (a && b) ≡ true → a ≡ true
    left true b e = refl
    left false b e = e
list_all-at p (y ∷ ys) (suc i) x all at = list_all-at p ys i x (right (p y) (list_all p ys) all) at
  where
    right : (a b : Bool) → (a && b) ≡ true → b ≡ true
    right true b e = e
    right false b e = cc

-- a column outside the key is nullable
pub nullable-at : (s : TableSchema) (i : ℕ) (c : Column) → may_be_null s ≡ true → slice_get s.columns i ≡ Some c → is_key s c ≡ false → c.nullable ≡ true
nullable-at s i c can at other =
    sym (or_nothing c.nullable) ∙ ap (λ b. c.nullable || b) (sym other) ∙ list_all-at (λ (d : Column). d.nullable || is_among s.primary d.name) s.columns i c can at
  where
    or_nothing : (b : Bool) → (b || false) ≡ b
    or_nothing true = refl
    or_nothing false = refl

pub fits-type : (c : Column) (v : Value) → FitsColumn c v → IsOfType c.kind v
fits-type c Null fits = tt
fits-type c v fits = fits

pub type-fits : (c : Column) (v : Value) → c.nullable ≡ true → IsOfType c.kind v → FitsColumn c v
type-fits c Null is fits = is
type-fits c v is fits = fits

-- a column outside the key is worth what the engine makes of it
pub by_column : (s : TableSchema) (i : ℕ) (c : Column) (rows : List HistoryRow) → slice_get s.columns i ≡ Some c → is_key s c ≡ false → column_value s i rows ≡ value_by s.options.engine s c i rows
unfolding worth.column_value
by_column s i c rows at other =
    ap (λ o. option_map_or (value_in s i rows) o Null) at
    ∙ ap (λ b. cond b (last_value (values_at i rows)) (value_by s.options.engine s c i rows)) other

-- in a column that is worth what a function makes of its cells
module _ (s : TableSchema) (key : Values) (i : ℕ) (c : Column) (m : ColumnMeaning) (value : (rows : List HistoryRow) → value_by s.options.engine s c i rows ≡ m.value (cells_at i rows))
    (taken : (rows : List HistoryRow) → AreTaken (engine.meaning_of s) key rows → AreTakenCells m (cells_at i rows)) where
  -- a stored row has what it is worth by itself
  pub cells-alone : (values : Values) (mid : List HistoryRow) → SpeaksForCells m (value_at values i) (cells_at i mid) → value_by s.options.engine s c i ((Insert, values) ∷ []) ≡ value_at values i
  cells-alone values mid speaks = value ((Insert, values) ∷ []) ∙ speaks.alone

  -- and among others it is worth the same as the rows for which its value speaks
  pub cells-worth : (values : Values) (mid before after : List HistoryRow) → SpeaksForCells m (value_at values i) (cells_at i mid) → AreTaken (engine.meaning_of s) key before → AreTaken (engine.meaning_of s) key after
      → value_by s.options.engine s c i (before ++ (mid ++ after)) ≡ value_by s.options.engine s c i (before ++ (Insert, values) ∷ after)
  cells-worth values mid before after speaks one two =
      value (before ++ (mid ++ after))
      ∙ ap m.value (cells_at-append i before (mid ++ after) ∙ ap (λ cells. cells_at i before ++ cells) (cells_at-append i mid after))
      ∙ speaks.worth (cells_at i before) (cells_at i after) (taken before one) (taken after two)
      ∙ ap m.value (sym (cells_at-append i before ((Insert, values) ∷ after)))
      ∙ sym (value (before ++ (Insert, values) ∷ after))

  -- a stored value speaks for itself
  pub cells-own : (r : HistoryRow) (x : List HistoryRow) → slice_get s.columns i ≡ Some c → is_key s c ≡ false → r.0 ≡ Insert → SpeaksFor (engine.meaning_of s) key r x
      → SpeaksForCells m (value_at r.1 i) ((Insert, value_at r.1 i) ∷ [])
  cells-own r x at other insert speaks =
      let itself : IsTakenCell m (Insert, value_at r.1 i) = subst (λ (k : Kind). IsTakenCell m (k, value_at r.1 i)) insert (taken (r ∷ []) (speaks.taken, tt)).0 in
      record {
        some = λ e. cc;
        all_taken = (itself, tt);
        taken = itself;
        alone = ap (λ (k : Kind). m.value ((k, value_at r.1 i) ∷ [])) (sym insert) ∙ sym (value (r ∷ [])) ∙ sym (by_column s i c (r ∷ []) at other) ∙ speaks.alone i;
        worth = λ before after _ _. refl;
      }
