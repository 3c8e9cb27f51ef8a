-- The value of a list to which all others compare so is one of them, and two lists joined have the one of theirs.
use Rattle.std.proofs.Common.{◌≡◌, [], ◌∷◌, ◌++◌, Bool, true, false, cond, not, ◌&&◌, Some, None, refl, sym, ap, ◌∙◌, append-nil, inl, inr, ◌⊎◌}
use Rattle.std.specs.List.{find, list_all}
use Rattle.std.specs.Option.{unwrap_or}
use Rattle.std.specs.Ordering.{is_le, is_ge, is_gt, ordering_reverse}
use Rattle.std.specs.declared.cmp.Ordering.{Ordering}
use Rattle.std.specs.declared.cmp.Ordering.TheVariants.{Less, Equal, Greater}
use Rattle.std.proofs.lemmas.Cmp.{upto}
use Rattle.std.proofs.lemmas.List.Elements.{filter-append}
use Rattle.std.proofs.lemmas.List.Folds.{list_all-append}
use Rattle.pm_values.specs.Order.{Values, value_cmp, value_total}
use Rattle.pm_values.proofs.Lemmas.{value_cmp-IsAntisymmetric}
use Rattle.pm_values.specs.declared.value.Value.{Value}
use Rattle.pm_values.specs.declared.value.Value.TheVariants.{Null}
use Rattle.pm_model_history.specs.ColumnValue.{is_null, non_null, extreme_value}
use Rattle.pm_aggregate.specs.Steps.{beside, not_greater, not_less, picked}
use Rattle.pm_aggregate.proofs.JoinLemmas.{NoneNull, none_null, beside-null}

-- a test of two values by which any two compare, and equal ones alone both ways
pub record IsLinear (le : Value → Value → Bool) : Type 0 where
  pub trans : (a b c : Value) → le a b ≡ true → le b c ≡ true → le a c ≡ true
  pub total : (a b : Value) → le a b ≡ false → le b a ≡ true
  pub same : (a b : Value) → le a b ≡ true → le b a ≡ true → a ≡ b

In : Value → Values → Type 0
In v [] = ⊥
In v (x ∷ xs) = (v ≡ x) ⊎ In v xs

-- all of the values compare so to the value
abbrev above : (Value → Value → Bool) → Value → Values → Bool
above le v xs = list_all (λ other. le other v) xs

abbrev extreme : (Value → Value → Bool) → Values → Value
extreme le xs = unwrap_or (find (λ v. above le v xs) xs) Null

pub and_left : (a b : Bool) → (a && b) ≡ true → a ≡ true
and_left true b e = refl
and_left false b e = e

pub and_right : (a b : Bool) → (a && b) ≡ true → b ≡ true
and_right true b e = e
and_right false b e = cc

pub and_both : (a b : Bool) → a ≡ true → b ≡ true → (a && b) ≡ true
and_both a b p q = cc

module _ (le : Value → Value → Bool) (linear : IsLinear le) where
  itself : (v : Value) → le v v ≡ true
  itself v = elim (le v v) as (λ b. le v v ≡ b → le v v ≡ true) [ true ↦ λ e. e | false ↦ λ e. linear.total v v e ] refl

  at : (v w : Value) (xs : Values) → above le v xs ≡ true → In w xs → le w v ≡ true
  unfolding In
  at v w [] all is = absurd is
  at v w (x ∷ xs) all (inl e) = ap (λ y. le y v) e ∙ and_left (le x v) (above le v xs) all
  at v w (x ∷ xs) all (inr is) = at v w xs (and_right (le x v) (above le v xs) all) is

  weaker : (v w : Value) (xs : Values) → le v w ≡ true → above le v xs ≡ true → above le w xs ≡ true
  weaker v w [] up all = refl
  weaker v w (x ∷ xs) up all =
      and_both (le x w) (above le w xs) (linear.trans x v w (and_left (le x v) (above le v xs) all) up)
      (weaker v w xs up (and_right (le x v) (above le v xs) all))

  found : (v : Value) (all xs : Values) → In v all → above le v all ≡ true → In v xs → above le v xs ≡ true → find (λ w. above le w all) xs ≡ Some v
  unfolding In
  found v all [] member top is more = absurd is
  found v all (x ∷ xs) member top is more =
      elim (above le x all) as (λ b. above le x all ≡ b → cond b (Some x) (find (λ w. above le w all) xs) ≡ Some v) [
        | true ↦ λ e. ap Some (linear.same x v (and_left (le x v) (above le v xs) more) (at x v all e member))
        | false ↦ λ e. found v all xs member top (past e is) (and_right (le x v) (above le v xs) more)
      ] refl
    where
      past : above le x all ≡ false → (v ≡ x) ⊎ In v xs → In v xs
      past e (inl same) = let e2 = ap (λ y. above le y all) same in absurd (let k : false ≡ true = cc in cc)
      past e (inr later) = later

  extreme_is : (v : Value) (xs : Values) → In v xs → above le v xs ≡ true → extreme le xs ≡ v
  extreme_is v xs member top = ap (λ o. unwrap_or o Null) (found v xs xs member top member top)

  in_left : (v : Value) (xs ys : Values) → In v xs → In v (xs ++ ys)
  unfolding In
  in_left v [] ys is = absurd is
  in_left v (x ∷ xs) ys (inl e) = inl e
  in_left v (x ∷ xs) ys (inr is) = inr (in_left v xs ys is)

  in_right : (v : Value) (xs ys : Values) → In v ys → In v (xs ++ ys)
  unfolding In
  in_right v [] ys is = is
  in_right v (x ∷ xs) ys is = inr (in_right v xs ys is)

  -- the one of two values that stands, of two lists with them
  joined : (a b : Value) (xs ys : Values) → In a xs → above le a xs ≡ true → In b ys → above le b ys ≡ true
      → In (picked le a b) (xs ++ ys) × (above le (picked le a b) (xs ++ ys) ≡ true)
  joined a b xs ys one top two under =
      elim (le b a) as (λ t. le b a ≡ t → In (cond t a b) (xs ++ ys) × (above le (cond t a b) (xs ++ ys) ≡ true)) [
        | true ↦ λ e. (in_left a xs ys one, list_all-append (λ other. le other a) xs ys ∙ and_both _ _ top (weaker b a ys e under))
        | false ↦ λ e. (in_right b xs ys two, list_all-append (λ other. le other b) xs ys ∙ and_both _ _ (weaker a b xs (linear.total b a e) top) under)
      ] refl

  exists : (x : Value) (xs : Values) → (v : Value) × In v (x ∷ xs) × (above le v (x ∷ xs) ≡ true)
  unfolding In
  exists x [] = (x, inl refl, and_both (le x x) true (itself x) refl)
  exists x (y ∷ ys) =
      let more = exists y ys in
      let both = joined x more.0 (x ∷ []) (y ∷ ys) (inl refl) (and_both (le x x) true (itself x) refl) more.1 more.2 in
      (picked le x more.0, both.0, both.1)

  not_null : (v : Value) (xs : Values) → In v xs → NoneNull xs → is_null v ≡ false
  unfolding In
  not_null v [] is none = absurd is
  not_null v (x ∷ xs) (inl e) none = ap is_null e ∙ none.0
  not_null v (x ∷ xs) (inr is) none = not_null v xs is none.1

  extreme-nulls : (xs ys : Values) → NoneNull xs → NoneNull ys → extreme le (xs ++ ys) ≡ beside (picked le) (extreme le xs) (extreme le ys)
  extreme-nulls [] ys none more = refl
  extreme-nulls (x ∷ xs) [] none more = ap (extreme le) (append-nil (x ∷ xs)) ∙ sym (beside-null (picked le) (extreme le (x ∷ xs)))
  extreme-nulls (x ∷ xs) (y ∷ ys) none more =
      let first = exists x xs in
      let second = exists y ys in
      let a = first.0 in
      let b = second.0 in
      let both = joined a b (x ∷ xs) (y ∷ ys) first.1 first.2 second.1 second.2 in
      extreme_is (picked le a b) ((x ∷ xs) ++ (y ∷ ys)) both.0 both.1
      ∙ sym (ap (λ v. beside (picked le) v (extreme le (y ∷ ys))) (extreme_is a (x ∷ xs) first.1 first.2)
      ∙ ap (λ v. beside (picked le) a v) (extreme_is b (y ∷ ys) second.1 second.2)
      ∙ ap (λ t. cond t b (cond (is_null b) a (picked le a b))) (not_null a (x ∷ xs) first.1 none)
      ∙ ap (λ t. cond t a (picked le a b)) (not_null b (y ∷ ys) second.1 more))

-- ---- the two orders

le_gt : (o : Ordering) → is_le o ≡ not (is_gt o)
le_gt Less = refl
le_gt Equal = refl
le_gt Greater = refl

ge_reverse : (o : Ordering) → is_ge (ordering_reverse o) ≡ is_le o
ge_reverse Less = refl
ge_reverse Equal = refl
ge_reverse Greater = refl

-- a value is at least another where that is at most it
not_less-flip : (a b : Value) → not_less a b ≡ not_greater b a
not_less-flip a b = ap is_ge (value_total.antisymm a b) ∙ ge_reverse (value_cmp b a)

not_greater-trans : (a b c : Value) → not_greater a b ≡ true → not_greater b c ≡ true → not_greater a c ≡ true
not_greater-trans a b c p q =
    le_gt (value_cmp a c) ∙ ap not (upto value_total a b c (under a b p) (under b c q))
  where
    flip : (t : Bool) → not t ≡ true → t ≡ false
    flip true e = sym e
    flip false e = refl

    under : (x y : Value) → not_greater x y ≡ true → is_gt (value_cmp x y) ≡ false
    under x y e = flip (is_gt (value_cmp x y)) (sym (le_gt (value_cmp x y)) ∙ e)

le_or : (o : Ordering) → is_le o ≡ false → is_le (ordering_reverse o) ≡ true
le_or Less e = cc
le_or Equal e = cc
le_or Greater e = refl

not_greater-total : (a b : Value) → not_greater a b ≡ false → not_greater b a ≡ true
not_greater-total a b e = ap is_le (value_total.antisymm b a) ∙ le_or (value_cmp a b) e

tie : (o : Ordering) → is_le o ≡ true → is_le (ordering_reverse o) ≡ true → o ≡ Equal
tie Less p q = cc
tie Equal p q = refl
tie Greater p q = cc

not_greater-same : (a b : Value) → not_greater a b ≡ true → not_greater b a ≡ true → a ≡ b
not_greater-same a b p q =
    value_cmp-IsAntisymmetric a b (tie (value_cmp a b) p (ap is_le (sym (value_total.antisymm b a)) ∙ q))

pub linear_le : IsLinear not_greater
linear_le = record { trans = not_greater-trans; total = not_greater-total; same = not_greater-same }

pub linear_ge : IsLinear not_less
linear_ge = record {
  trans = λ a b c p q. not_less-flip a c ∙ not_greater-trans c b a (sym (not_less-flip b c) ∙ q) (sym (not_less-flip a b) ∙ p);
  total = λ a b e. not_less-flip b a ∙ not_greater-total b a (sym (not_less-flip a b) ∙ e);
  same = λ a b p q. not_greater-same a b (sym (not_less-flip b a) ∙ q) (sym (not_less-flip a b) ∙ p);
}

pub extreme-append : (le : Value → Value → Bool) → IsLinear le → (xs ys : Values)
    → extreme le (non_null (xs ++ ys)) ≡ beside (picked le) (extreme le (non_null xs)) (extreme le (non_null ys))
extreme-append le linear xs ys =
    ap (extreme le) (filter-append (λ v. not (is_null v)) xs ys)
    ∙ extreme-nulls le linear (non_null xs) (non_null ys) (none_null xs) (none_null ys)

pub greatest-append : (xs ys : Values) → extreme_value is_le (non_null (xs ++ ys)) ≡ beside (picked not_greater) (extreme_value is_le (non_null xs)) (extreme_value is_le (non_null ys))
greatest-append = extreme-append not_greater linear_le

pub least-append : (xs ys : Values) → extreme_value is_ge (non_null (xs ++ ys)) ≡ beside (picked not_less) (extreme_value is_ge (non_null xs)) (extreme_value is_ge (non_null ys))
least-append = extreme-append not_less linear_ge

-- of one value, it is that one
pub extreme-one : (le : Value → Value → Bool) → IsLinear le → (v : Value) → extreme le (non_null (v ∷ [])) ≡ v
extreme-one le linear v =
    elim (is_null v) as (λ b. is_null v ≡ b → extreme le (cond (not b) (v ∷ []) []) ≡ v) [
      | true ↦ λ e. nothing v e
      | false ↦ λ e. ap (λ b. unwrap_or (cond (b && true) (Some v) None) Null) (itself le linear v)
    ] refl
  where
    nothing : (w : Value) → is_null w ≡ true → Null ≡ w
    nothing Null e = refl
    nothing w e = cc
