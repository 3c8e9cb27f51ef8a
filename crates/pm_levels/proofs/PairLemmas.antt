-- Two items of a list, at whatever indices.
use Rattle.std.proofs.Common.{◌≡◌, ◌≢◌, ℕ, ◌<◌, ◌+◌, List, [], ◌∷◌, ◌++◌, length, get_or, set, true, false, cond, ◌==◌, refl, sym, ap, ◌∙◌, arith, get_or-set_same, get_or-set_other, length-set}
use Rattle.std.specs.List.{swap, remove}
use Rattle.std.specs.List.Sorted.{IsPermutation}
use Rattle.std.proofs.lemmas.Bool.{eqb-true, eqb-false}
use Rattle.std.proofs.lemmas.Bool.Decides.{nat_tests}
use Rattle.std.proofs.lemmas.List.{get_or_default}
use Rattle.std.proofs.lemmas.List.Edits.{length-remove, length-swap, get_or-remove_below}
use Rattle.std.proofs.lemmas.List.Sorted.{IsPermutation-keeps, IsPermutation-trans, IsPermutation-sym, IsPermutation-cons, IsPermutation-remove, IsPermutation-middle, IsPermutation-append_left, IsPermutation-append_comm}
use Rattle.pm_levels.specs.Runs.{AreTwoOf}

-- a and b stand at two indices
pub record Stand {X : Type 0} (items : List X) (a b : X) : Type 0 where
  pub i : ℕ
  pub j : ℕ
  pub apart : i ≢ j
  pub first : i < length items
  pub second : j < length items
  pub left : get_or items i a ≡ a
  pub right : get_or items j b ≡ b

-- where the item at k stood before those at p and q changed places
abbrev from : ℕ → ℕ → ℕ → ℕ
from p q k = cond (k == q) p (cond (k == p) q k)

from-apart : (p q i j : ℕ) → i ≢ j → from p q i ≢ from p q j
from-apart p q i j apart e = grind (arith, nat_tests)

from-within : (p q k n : ℕ) → p < n → q < n → k < n → from p q k < n
from-within p q k n a b c = grind (arith, nat_tests)

module _ {X : Type 0} where
  from-at : (items : List X) (p q k : ℕ) (d : X) → p < length items → q < length items → k < length items → get_or (swap items p q) k d ≡ get_or items (from p q k) d
  from-at [] p q k d a b c = absurd (omega arith)
  from-at (y ∷ ys) p q k d a b c =
      let l = y ∷ ys in
      let w = set l p (get_or l q y) in
      let long : length w ≡ length l = length-set l p (get_or l q y) in
      let x = get_or l p y in
      elim (k == q) as (λ t. (k == q) ≡ t → get_or (set w q x) k d ≡ get_or l (cond t p (cond (k == p) q k)) d) [
        | true ↦ λ t. let is : k ≡ q = eqb-true k q t in
            ap (λ n. get_or (set w q x) n d) is ∙ get_or-set_same w q x d (omega arith) ∙ get_or_default l p y d a
        | false ↦ λ t. let is : k ≢ q = eqb-false k q t in
            get_or-set_other w q k x d is
            ∙ elim (k == p) as (λ s. (k == p) ≡ s → get_or w k d ≡ get_or l (cond s q k) d) [
              | true ↦ λ s. ap (λ n. get_or w n d) (eqb-true k p s) ∙ get_or-set_same l p (get_or l q y) d a ∙ get_or_default l q y d b
              | false ↦ λ s. get_or-set_other l p k (get_or l q y) d (eqb-false k p s)
            ] refl
      ] refl

  stand-swap : (items : List X) (p q : ℕ) (a b : X) → p < length items → q < length items → Stand (swap items p q) a b → Stand items a b
  stand-swap items p q a b r s t =
      let long : length (swap items p q) ≡ length items = length-swap items p q in
      let fst : t.i < length items = omega arith in
      let snd : t.j < length items = omega arith in
      record {
        i = from p q t.i;
        j = from p q t.j;
        apart = from-apart p q t.i t.j t.apart;
        first = from-within p q t.i (length items) r s fst;
        second = from-within p q t.j (length items) r s snd;
        left = sym (from-at items p q t.i a r s fst) ∙ t.left;
        right = sym (from-at items p q t.j b r s snd) ∙ t.right;
      }

  stands_in : (xs ys : List X) → IsPermutation xs ys → (a b : X) → Stand ys a b → Stand xs a b
  stands_in xs ys same = IsPermutation-keeps xs (λ l. (a b : X) → Stand l a b → Stand xs a b) (λ a b s. s)
      (λ l p q r s known a b t. known a b (stand-swap l p q a b r s t)) ys same

  -- two items stand at two indices
  pub stand : (a b : X) (items : List X) → AreTwoOf a b items → Stand items a b
  stand a b items two = stands_in items (a ∷ b ∷ two.0) two.1 a b (record {
    i = 0;
    j = 1;
    apart = λ e. omega arith;
    first = omega arith;
    second = omega arith;
    left = refl;
    right = refl;
  })

  -- and what stands at two indices are two items
  pub two-at : (items : List X) (i j : ℕ) (a b : X) → i < j → j < length items → get_or items i a ≡ a → get_or items j b ≡ b → AreTwoOf a b items
  two-at items i j a b less within left right =
      let others = remove items j in
      let short : length others + 1 ≡ length items = length-remove items j within in
      let inside : i < length others = omega arith in
      let here : a ≡ get_or others i a = sym (get_or-remove_below items j a i less within ∙ left) in
      let outer : IsPermutation items (b ∷ others) = IsPermutation-remove items j b within (sym right) in
      let inner : IsPermutation others (a ∷ remove others i) = IsPermutation-remove others i a inside here in
      let both : IsPermutation (b ∷ others) (b ∷ a ∷ remove others i) = IsPermutation-cons b others (a ∷ remove others i) inner in
      (remove others i, IsPermutation-trans items (b ∷ others) _ outer (IsPermutation-trans (b ∷ others) (b ∷ a ∷ remove others i) _ both (IsPermutation-middle (b ∷ []) a (remove others i))))

  pub two-back : (a b : X) (items : List X) → AreTwoOf a b items → AreTwoOf b a items
  two-back a b items two = (two.0, IsPermutation-trans items (a ∷ b ∷ two.0) (b ∷ a ∷ two.0) two.1 (IsPermutation-middle (a ∷ []) b two.0))

  -- the same of a list in another order, and of a list and another one
  pub two-moved : (a b : X) (xs ys : List X) → IsPermutation xs ys → AreTwoOf a b xs → AreTwoOf a b ys
  two-moved a b xs ys same two = (two.0, IsPermutation-trans ys xs (a ∷ b ∷ two.0) (IsPermutation-sym xs ys same) two.1)

  pub two-left : (a b : X) (xs ys : List X) → AreTwoOf a b xs → AreTwoOf a b (xs ++ ys)
  two-left a b xs ys two = (two.0 ++ ys, IsPermutation-append_left ys xs (a ∷ b ∷ two.0) two.1)

  pub two-right : (a b : X) (xs ys : List X) → AreTwoOf a b ys → AreTwoOf a b (xs ++ ys)
  two-right a b xs ys two = two-moved a b (ys ++ xs) (xs ++ ys) (IsPermutation-append_comm ys xs) (two-left a b ys xs two)
