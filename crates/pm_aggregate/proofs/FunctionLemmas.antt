-- The functions for which null counts for nothing.
use Rattle.std.proofs.Common.{◌≡◌, ℕ, ℤ, pos, ◌+ℤ◌, neg_ℤ, List, [], ◌∷◌, ◌++◌, Bool, true, false, cond, ◌&&◌, ◌||◌, refl, sym, ap, subst, ◌∙◌, append-nil, arith}
use Rattle.std.specs.Int.{Width, w8, w16, w32, w64, int_wrap}
use Rattle.std.specs.List.{filter_map}
use Rattle.std.specs.Ordering.{is_le, is_ge}
use Rattle.std.specs.Prelude.{IsUtf8}
use Rattle.std.proofs.lemmas.Int.{ints, int_wrap-add_left, SFits-int_wrap}
use Rattle.std.proofs.lemmas.List.{map-append}
use Rattle.std.proofs.lemmas.Str.{IsUtf8-append}
use Rattle.std.proofs.lemmas.List.Elements.{filter_map-append}
use Rattle.pm_values.specs.Fits.{IsInType}
use Rattle.pm_values.specs.Kind.{retracts}
use Rattle.pm_values.specs.Order.{Values}
use Rattle.pm_values.specs.declared.column.ColType.{ColType}
use Rattle.pm_values.specs.declared.column.ColType.TheVariants as types
use Rattle.pm_values.specs.declared.kind.Kind.{Kind}
use Rattle.pm_values.specs.declared.value.Value.{Value}
use Rattle.pm_values.specs.declared.value.Value.TheVariants.{Null, Bool as Truth, Int, Text}
use Rattle.pm_model_history.specs.ColumnValue.{all_value, any_value, extreme_value, first_value, joined_value, last_value, non_null}
use Rattle.pm_model_history.specs.ColumnValue.{sum_value, summand, text_in, truth_in, values_at, width_of}
use Rattle.pm_model_history.specs.Merge.{HistoryRow, value_at}
use Rattle.pm_aggregate.specs.Column.{IsOfType}
use Rattle.pm_aggregate.specs.Steps.{added, beside, both, either, glued, later, not_greater, not_less, earlier, picked}
use Rattle.pm_aggregate.proofs.ExtremeLemmas.{extreme-one, greatest-append, least-append, linear_ge, linear_le}
use Rattle.pm_aggregate.proofs.FoldLemmas.{Counts, IsOwn, Pairs}
use Rattle.pm_aggregate.proofs.JoinLemmas.{all-append, any-append, first-append, joined-append, last-append, sum-append}

values_at-append : (xs ys : List HistoryRow) → values_at 0 (xs ++ ys) ≡ values_at 0 xs ++ values_at 0 ys
values_at-append xs ys = map-append (λ (r : HistoryRow). value_at r.1 0) xs ys

-- ---- sums

integer_type : (kind : ColType) (n m : ℤ) → IsInType kind (Int n) → IsInType kind (Int (int_wrap (width_of kind) m))
integer_type types.TinyInt n m is = SFits-int_wrap w8 m
integer_type types.SmallInt n m is = SFits-int_wrap w16 m
integer_type types.Int n m is = SFits-int_wrap w32 m
integer_type types.BigInt n m is = SFits-int_wrap w64 m
integer_type kind n m is = absurd is

zero_right : (n : ℤ) → n +ℤ pos 0 ≡ n
zero_right n = omega (arith, ints)

-- what is wrapped stays as it is
wrapped_again : (w : Width) (n : ℤ) → int_wrap w (int_wrap w n +ℤ pos 0) ≡ int_wrap w n
wrapped_again w n = int_wrap-add_left w n (pos 0) ∙ ap (int_wrap w) (zero_right n)

abbrev pub sum_worth : ColType → List HistoryRow → Value
sum_worth kind rows = sum_value (width_of kind) (filter_map (summand 0) rows)

sum-one : (kind : ColType) (k : Kind) (v : Value) → IsOfType kind v → IsOfType kind (sum_worth kind ((k, v ∷ []) ∷ []))
sum-one kind k (Int n) is = integer_type kind n (cond (retracts k) (neg_ℤ n) n +ℤ pos 0) is
sum-one kind k v is = tt

sum-own : (kind : ColType) (k : Kind) (v : Value) → IsOwn (sum_worth kind) (sum_worth kind ((k, v ∷ []) ∷ []))
sum-own kind k (Int n) = ap Int (wrapped_again (width_of kind) (cond (retracts k) (neg_ℤ n) n +ℤ pos 0))
sum-own kind k v = refl

sum-two : (kind : ColType) (a b : Value) → IsOfType kind a → IsOfType kind (added (width_of kind) a b) × IsOwn (sum_worth kind) (added (width_of kind) a b)
sum-two kind (Int m) (Int n) is = (integer_type kind m (m +ℤ n) is, ap Int (wrapped_again (width_of kind) (m +ℤ n)))
sum-two kind a b is = (tt, refl)

pub sum-counts : (kind : ColType) → Counts kind (sum_worth kind) (added (width_of kind))
sum-counts kind = record {
  joins = λ xs ys. ap (sum_value (width_of kind)) (filter_map-append (summand 0) xs ys) ∙ sum-append (width_of kind) (filter_map (summand 0) xs) (filter_map (summand 0) ys);
  none = refl;
  null = refl;
  one = sum-one kind;
  own = sum-own kind;
}

pub sum-pairs : (kind : ColType) → Pairs kind (sum_worth kind) (added (width_of kind))
sum-pairs kind a b _ _ _ _ is _ = sum-two kind a b is

-- ---- extremes, the last and the first value

module _ (kind : ColType) (of : Values → Value) (join : Value → Value → Value) (append : (xs ys : Values) → of (non_null (xs ++ ys)) ≡ beside join (of (non_null xs)) (of (non_null ys)))
    (none : of [] ≡ Null) (itself : (v : Value) → of (non_null (v ∷ [])) ≡ v) (either_one : (a b : Value) → (P : Value → Type 0) → P a → P b → P (join a b)) where
  pub chosen-counts : Counts kind (λ rows. of (non_null (values_at 0 rows))) join
  chosen-counts = record {
    joins = λ xs ys. ap (λ vs. of (non_null vs)) (values_at-append xs ys) ∙ append (values_at 0 xs) (values_at 0 ys);
    none = none;
    null = itself Null;
    one = λ k v is. subst (IsOfType kind) (sym (itself v)) is;
    own = λ k v. itself (of (non_null (v ∷ [])));
  }

  pub chosen-pairs : Pairs kind (λ rows. of (non_null (values_at 0 rows))) join
  chosen-pairs a b one two _ _ at bt = (either_one a b (IsOfType kind) at bt, either_one a b (IsOwn (λ rows. of (non_null (values_at 0 rows)))) one two)

picked_one : (le : Value → Value → Bool) (a b : Value) (P : Value → Type 0) → P a → P b → P (picked le a b)
picked_one le a b P one two = elim (le b a) as (λ t. P (cond t a b)) [ true ↦ one | false ↦ two ]

pub greatest-counts : (kind : ColType) → Counts kind (λ rows. extreme_value is_le (non_null (values_at 0 rows))) (picked not_greater)
greatest-counts kind = chosen-counts kind (extreme_value is_le) (picked not_greater) greatest-append refl (extreme-one not_greater linear_le) (picked_one not_greater)

pub greatest-pairs : (kind : ColType) → Pairs kind (λ rows. extreme_value is_le (non_null (values_at 0 rows))) (picked not_greater)
greatest-pairs kind = chosen-pairs kind (extreme_value is_le) (picked not_greater) greatest-append refl (extreme-one not_greater linear_le) (picked_one not_greater)

pub least-counts : (kind : ColType) → Counts kind (λ rows. extreme_value is_ge (non_null (values_at 0 rows))) (picked not_less)
least-counts kind = chosen-counts kind (extreme_value is_ge) (picked not_less) least-append refl (extreme-one not_less linear_ge) (picked_one not_less)

pub least-pairs : (kind : ColType) → Pairs kind (λ rows. extreme_value is_ge (non_null (values_at 0 rows))) (picked not_less)
least-pairs kind = chosen-pairs kind (extreme_value is_ge) (picked not_less) least-append refl (extreme-one not_less linear_ge) (picked_one not_less)

pub last_one : (v : Value) → last_value (non_null (v ∷ [])) ≡ v
last_one Null = refl
last_one v = refl

pub first_one : (v : Value) → first_value (non_null (v ∷ [])) ≡ v
first_one Null = refl
first_one v = refl

pub last-counts : (kind : ColType) → Counts kind (λ rows. last_value (non_null (values_at 0 rows))) later
last-counts kind = chosen-counts kind last_value later last-append refl last_one (λ a b P one two. two)

pub last-pairs : (kind : ColType) → Pairs kind (λ rows. last_value (non_null (values_at 0 rows))) later
last-pairs kind = chosen-pairs kind last_value later last-append refl last_one (λ a b P one two. two)

pub first-counts : (kind : ColType) → Counts kind (λ rows. first_value (non_null (values_at 0 rows))) earlier
first-counts kind = chosen-counts kind first_value earlier first-append refl first_one (λ a b P one two. one)

pub first-pairs : (kind : ColType) → Pairs kind (λ rows. first_value (non_null (values_at 0 rows))) earlier
first-pairs kind = chosen-pairs kind first_value earlier first-append refl first_one (λ a b P one two. one)

-- ---- texts

abbrev pub joined_worth : List ℕ → List HistoryRow → Value
joined_worth d rows = joined_value d (filter_map text_in (values_at 0 rows))

text_type : (kind : ColType) (t u : List ℕ) → IsInType kind (Text t) → (IsUtf8 t → IsUtf8 u) → IsInType kind (Text u)
text_type types.Text t u is f = f is
text_type kind t u is f = absurd is

joined-one : (d : List ℕ) (kind : ColType) (k : Kind) (v : Value) → IsOfType kind v → IsOfType kind (joined_worth d ((k, v ∷ []) ∷ []))
joined-one d kind k (Text t) is = text_type kind t (t ++ []) is (λ u. subst IsUtf8 (sym (append-nil t)) u)
joined-one d kind k v is = tt

joined-own : (d : List ℕ) (k : Kind) (v : Value) → IsOwn (joined_worth d) (joined_worth d ((k, v ∷ []) ∷ []))
joined-own d k (Text t) = ap Text (append-nil (t ++ []))
joined-own d k v = refl

joined-two : (d : List ℕ) → IsUtf8 d → (kind : ColType) (a b : Value) → IsOfType kind a → IsOfType kind b → IsOfType kind (glued d a b) × IsOwn (joined_worth d) (glued d a b)
joined-two d fine kind (Text a) (Text b) at bt = (of kind at bt, ap Text (append-nil ((a ++ d) ++ b)))
  where
    of : (kind : ColType) → IsInType kind (Text a) → IsInType kind (Text b) → IsInType kind (Text ((a ++ d) ++ b))
    of types.Text at bt = IsUtf8-append (a ++ d) b (IsUtf8-append a d at fine) bt
    of kind at bt = absurd at
joined-two d fine kind a b at bt = (tt, refl)

pub joined-counts : (kind : ColType) (d : List ℕ) → Counts kind (joined_worth d) (glued d)
joined-counts kind d = record {
  joins = λ xs ys. ap (λ vs. joined_value d (filter_map text_in vs)) (values_at-append xs ys)
      ∙ ap (joined_value d) (filter_map-append text_in (values_at 0 xs) (values_at 0 ys))
      ∙ joined-append d (filter_map text_in (values_at 0 xs)) (filter_map text_in (values_at 0 ys));
  none = refl;
  null = refl;
  one = joined-one d kind;
  own = joined-own d;
}

pub joined-pairs : (kind : ColType) (d : List ℕ) → IsUtf8 d → Pairs kind (joined_worth d) (glued d)
joined-pairs kind d fine a b _ _ _ _ at bt = joined-two d fine kind a b at bt

-- ---- truths

truth_type : (kind : ColType) (a b : Bool) → IsInType kind (Truth a) → IsInType kind (Truth b)
truth_type types.Boolean a b is = tt
truth_type kind a b is = absurd is

pub and_true : (b : Bool) → (b && true) ≡ b
and_true true = refl
and_true false = refl

pub or_false : (b : Bool) → (b || false) ≡ b
or_false true = refl
or_false false = refl

abbrev pub all_worth : List HistoryRow → Value
all_worth rows = all_value (filter_map truth_in (values_at 0 rows))

abbrev pub any_worth : List HistoryRow → Value
any_worth rows = any_value (filter_map truth_in (values_at 0 rows))

all-one : (kind : ColType) (k : Kind) (v : Value) → IsOfType kind v → IsOfType kind (all_worth ((k, v ∷ []) ∷ []))
all-one kind k (Truth b) is = truth_type kind b (b && true) is
all-one kind k v is = tt

all-own : (k : Kind) (v : Value) → IsOwn all_worth (all_worth ((k, v ∷ []) ∷ []))
all-own k (Truth b) = ap Truth (and_true (b && true))
all-own k v = refl

all-two : (kind : ColType) (a b : Value) → IsOfType kind a → IsOfType kind (both a b) × IsOwn all_worth (both a b)
all-two kind (Truth a) (Truth b) is = (truth_type kind a (a && b) is, ap Truth (and_true (a && b)))
all-two kind a b is = (tt, refl)

any-one : (kind : ColType) (k : Kind) (v : Value) → IsOfType kind v → IsOfType kind (any_worth ((k, v ∷ []) ∷ []))
any-one kind k (Truth b) is = truth_type kind b (b || false) is
any-one kind k v is = tt

any-own : (k : Kind) (v : Value) → IsOwn any_worth (any_worth ((k, v ∷ []) ∷ []))
any-own k (Truth b) = ap Truth (or_false (b || false))
any-own k v = refl

any-two : (kind : ColType) (a b : Value) → IsOfType kind a → IsOfType kind (either a b) × IsOwn any_worth (either a b)
any-two kind (Truth a) (Truth b) is = (truth_type kind a (a || b) is, ap Truth (or_false (a || b)))
any-two kind a b is = (tt, refl)

pub all-counts : (kind : ColType) → Counts kind all_worth both
all-counts kind = record {
  joins = λ xs ys. ap (λ vs. all_value (filter_map truth_in vs)) (values_at-append xs ys)
      ∙ ap all_value (filter_map-append truth_in (values_at 0 xs) (values_at 0 ys))
      ∙ all-append (filter_map truth_in (values_at 0 xs)) (filter_map truth_in (values_at 0 ys));
  none = refl;
  null = refl;
  one = all-one kind;
  own = all-own;
}

pub all-pairs : (kind : ColType) → Pairs kind all_worth both
all-pairs kind a b _ _ _ _ is _ = all-two kind a b is

pub any-counts : (kind : ColType) → Counts kind any_worth either
any-counts kind = record {
  joins = λ xs ys. ap (λ vs. any_value (filter_map truth_in vs)) (values_at-append xs ys)
      ∙ ap any_value (filter_map-append truth_in (values_at 0 xs) (values_at 0 ys))
      ∙ any-append (filter_map truth_in (values_at 0 xs)) (filter_map truth_in (values_at 0 ys));
  none = refl;
  null = refl;
  one = any-one kind;
  own = any-own;
}

pub any-pairs : (kind : ColType) → Pairs kind any_worth either
any-pairs kind a b _ _ _ _ is _ = any-two kind a b is
