-- The laws of each function for which null counts for nothing, over what its code answers.
use Rattle.std.proofs.Common.{◌≡◌, ℕ, List, [], ◌∷◌, ◌++◌, Bool, true, false, cond, not, ◌||◌, refl, sym, ap, subst, ◌∙◌, append-nil}
use Rattle.std.specs.Ordering.{is_le, is_ge}
use Rattle.std.specs.Prelude.{IsUtf8}
use Rattle.pm_values.specs.Kind.{retracts}
use Rattle.pm_values.specs.declared.column.ColType.{ColType}
use Rattle.pm_values.specs.declared.kind.Kind.{Kind}
use Rattle.pm_values.specs.declared.value.Value.{Value}
use Rattle.pm_values.specs.declared.value.Value.TheVariants.{Null, Bool as Truth, Text}
use Rattle.pm_model_history.specs.ColumnValue.{extreme_value, first_value, last_value, non_null, values_at, width_of}
use Rattle.pm_model_history.specs.Merge.{HistoryRow}
use Rattle.pm_aggregate.specs.Column.{Cell, ColumnMeaning, IsOfType, SpeaksForCells}
use Rattle.pm_aggregate.specs.Functions.{all_of, any_of, counting, first_non_null_of, greatest_of, joined_of, last_non_null_of, least_of, sum_of, takes_where}
use Rattle.pm_aggregate.specs.Steps.{added, beside, both, either, glued, later, not_greater, not_less, earlier, picked, text_alone, truth_alone}
use Rattle.pm_aggregate.proofs.ExtremeLemmas.{extreme-one, linear_ge, linear_le}
use Rattle.pm_aggregate.proofs.FoldLemmas.{Counts, Pairs, counted-combines, counted-lifts}
use Rattle.pm_aggregate.proofs.FunctionLemmas.{all-counts, all-pairs, all_worth, and_true, any-counts, any-pairs, any_worth, first-counts, first-pairs, first_one, greatest-counts, greatest-pairs, joined-counts, joined-pairs, joined_worth, last-counts, last-pairs, last_one, least-counts, least-pairs, or_false, sum-counts, sum-pairs, sum_worth}

-- ---- sums, which take each row

pub sum-lifts : (kind : ColType) (skips : Bool) (k : Kind) (v w : Value) → w ≡ (sum_of kind skips).value ((k, v) ∷ []) → IsOfType kind v → SpeaksForCells (sum_of kind skips) w ((k, v) ∷ [])
sum-lifts kind skips k v w is of_type =
    subst (λ x. SpeaksForCells (sum_of kind skips) x ((k, v) ∷ [])) (sym is)
    (counted-lifts kind skips (λ retract. true) (sum_worth kind) (added (width_of kind)) (sum-counts kind) refl k v (record { of_type = of_type; taken = refl }))

pub sum-combines : (kind : ColType) (skips : Bool) (a b w : Value) (x y : List Cell) → w ≡ beside (added (width_of kind)) a b
    → SpeaksForCells (sum_of kind skips) a x → SpeaksForCells (sum_of kind skips) b y → SpeaksForCells (sum_of kind skips) w (x ++ y)
sum-combines kind skips a b w x y is one two =
    subst (λ c. SpeaksForCells (sum_of kind skips) c (x ++ y)) (sym is)
    (counted-combines kind skips (λ retract. true) (sum_worth kind) (added (width_of kind)) (sum-counts kind) refl (sum-pairs kind) a b x y one two)

-- ---- the functions that take rows that retract where they skip them

or_true : (b : Bool) → (b || true) ≡ true
or_true true = refl
or_true false = refl

-- what counts of one taken cell
counting_cell : (skips : Bool) (k : Kind) (v : Value) → takes_where skips (retracts k) ≡ true → counting skips ((k, v) ∷ []) ≡ cond (retracts k) [] ((k, v ∷ []) ∷ [])
counting_cell true k v taken = skipped (retracts k) (k, v ∷ [])
  where
    skipped : (b : Bool) (r : HistoryRow) → cond (not b) (r ∷ []) [] ≡ cond b [] (r ∷ [])
    skipped true r = refl
    skipped false r = refl
counting_cell false k v taken = added_one (retracts k) (k, v ∷ []) taken
  where
    added_one : (b : Bool) (r : HistoryRow) → not b ≡ true → r ∷ [] ≡ cond b [] (r ∷ [])
    added_one true r e = cc
    added_one false r e = refl

module _ (kind : ColType) (skips : Bool) (worth : List HistoryRow → Value) (join : Value → Value → Value) (counts : Counts kind worth join) (kept : Value → Value)
    (one_is : (k : Kind) (v : Value) → worth ((k, v ∷ []) ∷ []) ≡ kept v) where
  worth_cell : (k : Kind) (v : Value) (b : Bool) → worth (cond b [] ((k, v ∷ []) ∷ [])) ≡ cond b Null (kept v)
  worth_cell k v true = counts.none
  worth_cell k v false = one_is k v

  pub skipping-lifts : (k : Kind) (retract : Bool) (v w : Value) → retracts k ≡ retract → w ≡ cond retract Null (kept v) → takes_where skips retract ≡ true → IsOfType kind v
      → SpeaksForCells (record { kind = kind; takes = takes_where skips; value = λ cells. worth (counting skips cells) }) w ((k, v) ∷ [])
  skipping-lifts k retract v w same is taken of_type =
      let here : takes_where skips (retracts k) ≡ true = ap (takes_where skips) same ∙ taken in
      let m : ColumnMeaning = record { kind = kind; takes = takes_where skips; value = λ cells. worth (counting skips cells) } in
      subst (λ x. SpeaksForCells m x ((k, v) ∷ []))
      (ap worth (counting_cell skips k v here) ∙ worth_cell k v (retracts k) ∙ ap (λ b. cond b Null (kept v)) same ∙ sym is)
      (counted-lifts kind skips (takes_where skips) worth join counts (or_true skips) k v (record { of_type = of_type; taken = here }))

  pub skipping-combines : Pairs kind worth join → (a b w : Value) (x y : List Cell) → w ≡ beside join a b
      → SpeaksForCells (record { kind = kind; takes = takes_where skips; value = λ cells. worth (counting skips cells) }) a x
      → SpeaksForCells (record { kind = kind; takes = takes_where skips; value = λ cells. worth (counting skips cells) }) b y
      → SpeaksForCells (record { kind = kind; takes = takes_where skips; value = λ cells. worth (counting skips cells) }) w (x ++ y)
  skipping-combines pairs a b w x y is one two =
      let m : ColumnMeaning = record { kind = kind; takes = takes_where skips; value = λ cells. worth (counting skips cells) } in
      subst (λ c. SpeaksForCells m c (x ++ y)) (sym is) (counted-combines kind skips (takes_where skips) worth join counts (or_true skips) pairs a b x y one two)

pub greatest-lifts : (kind : ColType) (skips : Bool) (k : Kind) (retract : Bool) (v w : Value) → retracts k ≡ retract → w ≡ cond retract Null v → takes_where skips retract ≡ true → IsOfType kind v
    → SpeaksForCells (greatest_of kind skips) w ((k, v) ∷ [])
greatest-lifts kind skips = skipping-lifts kind skips (λ rows. extreme_value is_le (non_null (values_at 0 rows))) (picked not_greater) (greatest-counts kind) (λ v. v) (λ k v. extreme-one not_greater linear_le v)

pub greatest-combines : (kind : ColType) (skips : Bool) (a b w : Value) (x y : List Cell) → w ≡ beside (picked not_greater) a b
    → SpeaksForCells (greatest_of kind skips) a x → SpeaksForCells (greatest_of kind skips) b y → SpeaksForCells (greatest_of kind skips) w (x ++ y)
greatest-combines kind skips = skipping-combines kind skips (λ rows. extreme_value is_le (non_null (values_at 0 rows))) (picked not_greater) (greatest-counts kind) (λ v. v) (λ k v. extreme-one not_greater linear_le v) (greatest-pairs kind)

pub least-lifts : (kind : ColType) (skips : Bool) (k : Kind) (retract : Bool) (v w : Value) → retracts k ≡ retract → w ≡ cond retract Null v → takes_where skips retract ≡ true → IsOfType kind v
    → SpeaksForCells (least_of kind skips) w ((k, v) ∷ [])
least-lifts kind skips = skipping-lifts kind skips (λ rows. extreme_value is_ge (non_null (values_at 0 rows))) (picked not_less) (least-counts kind) (λ v. v) (λ k v. extreme-one not_less linear_ge v)

pub least-combines : (kind : ColType) (skips : Bool) (a b w : Value) (x y : List Cell) → w ≡ beside (picked not_less) a b
    → SpeaksForCells (least_of kind skips) a x → SpeaksForCells (least_of kind skips) b y → SpeaksForCells (least_of kind skips) w (x ++ y)
least-combines kind skips = skipping-combines kind skips (λ rows. extreme_value is_ge (non_null (values_at 0 rows))) (picked not_less) (least-counts kind) (λ v. v) (λ k v. extreme-one not_less linear_ge v) (least-pairs kind)

pub last_non_null-lifts : (kind : ColType) (skips : Bool) (k : Kind) (retract : Bool) (v w : Value) → retracts k ≡ retract → w ≡ cond retract Null v → takes_where skips retract ≡ true → IsOfType kind v
    → SpeaksForCells (last_non_null_of kind skips) w ((k, v) ∷ [])
last_non_null-lifts kind skips = skipping-lifts kind skips (λ rows. last_value (non_null (values_at 0 rows))) later (last-counts kind) (λ v. v) (λ k v. last_one v)

pub last_non_null-combines : (kind : ColType) (skips : Bool) (a b w : Value) (x y : List Cell) → w ≡ beside later a b
    → SpeaksForCells (last_non_null_of kind skips) a x → SpeaksForCells (last_non_null_of kind skips) b y → SpeaksForCells (last_non_null_of kind skips) w (x ++ y)
last_non_null-combines kind skips = skipping-combines kind skips (λ rows. last_value (non_null (values_at 0 rows))) later (last-counts kind) (λ v. v) (λ k v. last_one v) (last-pairs kind)

pub first_non_null-lifts : (kind : ColType) (skips : Bool) (k : Kind) (retract : Bool) (v w : Value) → retracts k ≡ retract → w ≡ cond retract Null v → takes_where skips retract ≡ true → IsOfType kind v
    → SpeaksForCells (first_non_null_of kind skips) w ((k, v) ∷ [])
first_non_null-lifts kind skips = skipping-lifts kind skips (λ rows. first_value (non_null (values_at 0 rows))) earlier (first-counts kind) (λ v. v) (λ k v. first_one v)

pub first_non_null-combines : (kind : ColType) (skips : Bool) (a b w : Value) (x y : List Cell) → w ≡ beside earlier a b
    → SpeaksForCells (first_non_null_of kind skips) a x → SpeaksForCells (first_non_null_of kind skips) b y → SpeaksForCells (first_non_null_of kind skips) w (x ++ y)
first_non_null-combines kind skips = skipping-combines kind skips (λ rows. first_value (non_null (values_at 0 rows))) earlier (first-counts kind) (λ v. v) (λ k v. first_one v) (first-pairs kind)

text_one : (d : List ℕ) (k : Kind) (v : Value) → joined_worth d ((k, v ∷ []) ∷ []) ≡ text_alone v
text_one d k (Text t) = ap Text (append-nil t)
text_one d k v = refl

pub joined-lifts : (kind : ColType) (skips : Bool) (d : List ℕ) (k : Kind) (retract : Bool) (v w : Value) → retracts k ≡ retract → w ≡ cond retract Null (text_alone v) → takes_where skips retract ≡ true
    → IsOfType kind v → SpeaksForCells (joined_of kind skips d) w ((k, v) ∷ [])
joined-lifts kind skips d = skipping-lifts kind skips (joined_worth d) (glued d) (joined-counts kind d) text_alone (text_one d)

pub joined-combines : (kind : ColType) (skips : Bool) (d : List ℕ) → IsUtf8 d → (a b w : Value) (x y : List Cell) → w ≡ beside (glued d) a b
    → SpeaksForCells (joined_of kind skips d) a x → SpeaksForCells (joined_of kind skips d) b y → SpeaksForCells (joined_of kind skips d) w (x ++ y)
joined-combines kind skips d fine = skipping-combines kind skips (joined_worth d) (glued d) (joined-counts kind d) text_alone (text_one d) (joined-pairs kind d fine)

all_one : (k : Kind) (v : Value) → all_worth ((k, v ∷ []) ∷ []) ≡ truth_alone v
all_one k (Truth b) = ap Truth (and_true b)
all_one k v = refl

any_one : (k : Kind) (v : Value) → any_worth ((k, v ∷ []) ∷ []) ≡ truth_alone v
any_one k (Truth b) = ap Truth (or_false b)
any_one k v = refl

pub all-lifts : (kind : ColType) (skips : Bool) (k : Kind) (retract : Bool) (v w : Value) → retracts k ≡ retract → w ≡ cond retract Null (truth_alone v) → takes_where skips retract ≡ true → IsOfType kind v
    → SpeaksForCells (all_of kind skips) w ((k, v) ∷ [])
all-lifts kind skips = skipping-lifts kind skips all_worth both (all-counts kind) truth_alone all_one

pub all-combines : (kind : ColType) (skips : Bool) (a b w : Value) (x y : List Cell) → w ≡ beside both a b
    → SpeaksForCells (all_of kind skips) a x → SpeaksForCells (all_of kind skips) b y → SpeaksForCells (all_of kind skips) w (x ++ y)
all-combines kind skips = skipping-combines kind skips all_worth both (all-counts kind) truth_alone all_one (all-pairs kind)

pub any-lifts : (kind : ColType) (skips : Bool) (k : Kind) (retract : Bool) (v w : Value) → retracts k ≡ retract → w ≡ cond retract Null (truth_alone v) → takes_where skips retract ≡ true → IsOfType kind v
    → SpeaksForCells (any_of kind skips) w ((k, v) ∷ [])
any-lifts kind skips = skipping-lifts kind skips any_worth either (any-counts kind) truth_alone any_one

pub any-combines : (kind : ColType) (skips : Bool) (a b w : Value) (x y : List Cell) → w ≡ beside either a b
    → SpeaksForCells (any_of kind skips) a x → SpeaksForCells (any_of kind skips) b y → SpeaksForCells (any_of kind skips) w (x ++ y)
any-combines kind skips = skipping-combines kind skips any_worth either (any-counts kind) truth_alone any_one (any-pairs kind)
