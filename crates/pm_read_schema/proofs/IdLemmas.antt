-- The ids that names list are one list: rising numbers with the same members are the same.
use Rattle.std.proofs.Common.{◌≡◌, inl, inr, ℕ, suc, ◌+◌, ◌<◌, List, [], ◌∷◌, slice_index, Contains, refl, sym, ap, subst, ◌∙◌, arith}
use Rattle.std.specs.List.Sorted.{IsStrictlyIncreasing}
use Rattle.std.proofs.lemmas.List.Kept.{AllPairs-from_increasing}
use Rattle.pm_paths.specs.Ids.{AreIds}
use Rattle.pm_paths.proofs.ListLemmas.{cases, here, more, nowhere}

above_head : (x : ℕ) (xs : List ℕ) → IsStrictlyIncreasing (x ∷ xs) → (y : ℕ) → Contains xs y → x < y
above_head x xs rises y c =
    let below = c.1 in
    subst (λ (z : ℕ). x < z) c.2 (AllPairs-from_increasing (x ∷ xs) rises 0 (suc c.0) y (omega arith) (omega (arith, below)))

rising_tail : (x : ℕ) (xs : List ℕ) → IsStrictlyIncreasing (x ∷ xs) → IsStrictlyIncreasing xs
rising_tail x xs rises = λ k within.
    let more : suc k + 1 ≡ suc (k + 1) = omega arith in
    subst (λ (n : ℕ). slice_index xs k < slice_index (x ∷ xs) n) more (rises (suc k) (omega (arith, within)))

abbrev HasAll : List ℕ → List ℕ → Type 0
HasAll xs ys = (x : ℕ) → Contains xs x → Contains ys x

-- the least of both
one_head : (x y : ℕ) (xs ys : List ℕ) → IsStrictlyIncreasing (x ∷ xs) → IsStrictlyIncreasing (y ∷ ys) → HasAll (x ∷ xs) (y ∷ ys)
    → HasAll (y ∷ ys) (x ∷ xs) → x ≡ y
one_head x y xs ys rises climbs there back = elim (cases y ys x (there x (here x xs))) as (λ _. x ≡ y) [
  | inl same ↦ sym same
  | inr later ↦ elim (cases x xs y (back y (here y ys))) as (λ _. x ≡ y) [
    | inl same ↦ same
    | inr above ↦ (let low = above_head y ys climbs x later in
        let high = above_head x xs rises y above in
        omega (arith, low, high))
  ]
]

rest_has : (x y : ℕ) (xs ys : List ℕ) → x ≡ y → IsStrictlyIncreasing (x ∷ xs) → HasAll (x ∷ xs) (y ∷ ys) → HasAll xs ys
rest_has x y xs ys same rises there z c = elim (cases y ys z (there z (more x xs z c))) as (λ _. Contains ys z) [
  | inl first ↦ (let above = above_head x xs rises z c in absurd (omega (arith, above, first, same)))
  | inr later ↦ later
]

same_rising : (xs ys : List ℕ) → IsStrictlyIncreasing xs → IsStrictlyIncreasing ys → HasAll xs ys → HasAll ys xs → xs ≡ ys
same_rising [] [] rises climbs there back = refl
same_rising [] (y ∷ ys) rises climbs there back = absurd (nowhere y (back y (here y ys)))
same_rising (x ∷ xs) [] rises climbs there back = absurd (nowhere x (there x (here x xs)))
same_rising (x ∷ xs) (y ∷ ys) rises climbs there back =
    let same = one_head x y xs ys rises climbs there back in
    let rest = same_rising xs ys (rising_tail x xs rises) (rising_tail y ys climbs) (rest_has x y xs ys same rises there)
    (rest_has y x ys xs (sym same) climbs back) in
    ap (λ (x : ℕ). x ∷ xs) same ∙ ap (λ (xs : List ℕ). y ∷ xs) rest

pub one_ids : (names : List (List ℕ)) (ids others : List ℕ) → AreIds names ids → AreIds names others → ids ≡ others
one_ids names ids others are were =
    same_rising ids others are.rising were.rising (λ id c. (were.exact id).1 ((are.exact id).0 c)) (λ id c. (are.exact id).1 ((were.exact id).0 c))
