-- What each function makes of two lists, one after the other: what it makes of what it makes of each.
use Rattle.std.proofs.Common.{◌≡◌, ℕ, ℤ, ◌+ℤ◌, List, [], ◌∷◌, ◌++◌, Bool, true, false, cond, not, Option, Some, None, refl, sym, ap, ◌∙◌, arith, append_assoc, append-nil}
use Rattle.std.specs.Int.{Width, int_wrap}
use Rattle.std.specs.List.{last_or}
use Rattle.std.specs.Option.{unwrap_or}
use Rattle.std.proofs.lemmas.Int.{ints, int_wrap-add_left, int_wrap-add_right}
use Rattle.std.proofs.lemmas.Grind.{flat_map-append}
use Rattle.std.proofs.lemmas.List.Folds.{list_all-append, list_any-append}
use Rattle.std.proofs.lemmas.List.Elements.{filter-append}
use Rattle.pm_values.specs.Order.{Values}
use Rattle.pm_values.specs.declared.value.Value.{Value}
use Rattle.pm_values.specs.declared.value.Value.TheVariants.{Null, Bool as Truth, Int, Text}
use Rattle.pm_model_history.specs.ColumnValue.{is_null, non_null, first_value, last_value, total, sum_value, joined_value, all_value, any_value}
use Rattle.pm_aggregate.specs.Steps.{beside, added, glued, both, either, earlier, later}

-- nothing after a value leaves it
pub beside-null : (f : Value → Value → Value) (a : Value) → beside f a Null ≡ a
beside-null f Null = refl
beside-null f a = refl

total-append : (xs ys : List ℤ) → total (xs ++ ys) ≡ total xs +ℤ total ys
total-append [] ys = omega (arith, ints)
total-append (x ∷ xs) ys = ap (λ t. x +ℤ t) (total-append xs ys) ∙ assoc x (total xs) (total ys)
  where
    assoc : (a b c : ℤ) → a +ℤ (b +ℤ c) ≡ (a +ℤ b) +ℤ c
    assoc a b c = omega (arith, ints)

pub sum-append : (w : Width) (xs ys : List ℤ) → sum_value w (xs ++ ys) ≡ beside (added w) (sum_value w xs) (sum_value w ys)
sum-append w [] ys = refl
sum-append w (x ∷ xs) [] = ap (sum_value w) (append-nil (x ∷ xs))
sum-append w (x ∷ xs) (y ∷ ys) =
    ap (λ t. Int (int_wrap w t)) (total-append (x ∷ xs) (y ∷ ys))
    ∙ ap Int (sym (int_wrap-add_left w (total (x ∷ xs)) (total (y ∷ ys))) ∙ sym (int_wrap-add_right w (int_wrap w (total (x ∷ xs))) (total (y ∷ ys))))

pub joined-append : (d : List ℕ) (xs ys : List (List ℕ)) → joined_value d (xs ++ ys) ≡ beside (glued d) (joined_value d xs) (joined_value d ys)
joined-append d [] ys = refl
joined-append d (x ∷ xs) [] = ap (joined_value d) (append-nil (x ∷ xs))
joined-append d (x ∷ xs) (y ∷ ys) =
    ap (λ t. Text (x ++ t)) (flat_map-append (λ t. d ++ t) xs (y ∷ ys)) ∙ ap Text (simp append_assoc)

pub all-append : (xs ys : List Bool) → all_value (xs ++ ys) ≡ beside both (all_value xs) (all_value ys)
all-append [] ys = refl
all-append (x ∷ xs) [] = ap all_value (append-nil (x ∷ xs))
all-append (x ∷ xs) (y ∷ ys) = ap Truth (list_all-append (λ t. t) (x ∷ xs) (y ∷ ys))

pub any-append : (xs ys : List Bool) → any_value (xs ++ ys) ≡ beside either (any_value xs) (any_value ys)
any-append [] ys = refl
any-append (x ∷ xs) [] = ap any_value (append-nil (x ∷ xs))
any-append (x ∷ xs) (y ∷ ys) = ap Truth (list_any-append (λ t. t) (x ∷ xs) (y ∷ ys))

-- ---- values that aren't null

-- none of the values is null
abbrev pub NoneNull : Values → Type 0
NoneNull [] = Unit {0}
NoneNull (v ∷ vs) = (is_null v ≡ false) × NoneNull vs

pub none_null : (vs : Values) → NoneNull (non_null vs)
none_null [] = tt
none_null (v ∷ vs) =
    elim (is_null v) as (λ b. is_null v ≡ b → NoneNull (cond (not b) (v ∷ non_null vs) (non_null vs))) [
      | true ↦ λ e. none_null vs
      | false ↦ λ e. (e, none_null vs)
    ] refl

first-nulls : (xs ys : Values) → NoneNull xs → first_value (xs ++ ys) ≡ beside earlier (first_value xs) (first_value ys)
first-nulls [] ys none = refl
first-nulls (x ∷ xs) ys none =
    sym (ap (λ b. cond b (first_value ys) (cond (is_null (first_value ys)) x x)) none.0
    ∙ elim (is_null (first_value ys)) as (λ b. cond b x x ≡ x) [ true ↦ refl | false ↦ refl ])

pub first-append : (xs ys : Values) → first_value (non_null (xs ++ ys)) ≡ beside earlier (first_value (non_null xs)) (first_value (non_null ys))
first-append xs ys = ap first_value (filter-append (λ v. not (is_null v)) xs ys) ∙ first-nulls (non_null xs) (non_null ys) (none_null xs)

last-some : {A : Type 0} (o : Option A) (x : A) (xs : List A) → last_or o (x ∷ xs) ≡ last_or None (x ∷ xs)
last-some o x xs = refl

pub last_or-append : {A : Type 0} (o : Option A) (xs ys : List A) → last_or o (xs ++ ys) ≡ last_or (last_or o xs) ys
last_or-append o [] ys = refl
last_or-append o (x ∷ xs) ys = last_or-append (Some x) xs ys

-- the last of values that aren't null isn't
last-not_null : (v : Value) (vs : Values) → is_null v ≡ false → NoneNull vs → is_null (unwrap_or (last_or (Some v) vs) Null) ≡ false
last-not_null v [] is none = is
last-not_null v (w ∷ ws) is none = last-not_null w ws none.0 none.1

last-nulls : (xs ys : Values) → NoneNull xs → NoneNull ys → last_value (xs ++ ys) ≡ beside later (last_value xs) (last_value ys)
last-nulls xs [] none more = ap last_value (append-nil xs) ∙ sym (beside-null later (last_value xs))
last-nulls xs (y ∷ ys) none more =
    ap (λ o. unwrap_or o Null) (last_or-append None xs (y ∷ ys))
    ∙ sym (ap (λ b. cond (is_null (last_value xs)) (last_value (y ∷ ys)) (cond b (last_value xs) (last_value (y ∷ ys)))) (last-not_null y ys more.0 more.1)
    ∙ elim (is_null (last_value xs)) as (λ b. cond b (last_value (y ∷ ys)) (last_value (y ∷ ys)) ≡ last_value (y ∷ ys)) [ true ↦ refl | false ↦ refl ])

pub last-append : (xs ys : Values) → last_value (non_null (xs ++ ys)) ≡ beside later (last_value (non_null xs)) (last_value (non_null ys))
last-append xs ys = ap last_value (filter-append (λ v. not (is_null v)) xs ys) ∙ last-nulls (non_null xs) (non_null ys) (none_null xs) (none_null ys)
