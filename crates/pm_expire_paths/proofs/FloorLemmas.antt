-- The floors that names list below a number.
use Rattle.std.proofs.Common.{◌≡◌, ◌⊎◌, inl, inr, ◌↔◌, ℕ, ◌<◌, ◌≤◌, nat_lt, Bool, true, false, if◌then◌else◌, List, [], ◌∷◌, codes, Contains, Option, None, Some, option_and_then, refl, sym, ap, subst, ◌∙◌, arith}
use Rattle.std.specs.List.{filter_map, cons_option, dedup}
use Rattle.std.specs.List.Sorted.{IsPermutation, IsSorted}
use Rattle.std.specs.Ordering.{nat_cmp}
use Rattle.std.proofs.Math.Dec.{eqb}
use Rattle.std.proofs.lemmas.Bool.Decides.{nat_tests}
use Rattle.std.proofs.lemmas.List.Kept.{Contains-dedup_nat, Contains-from_dedup}
use Rattle.std.proofs.lemmas.List.Sorted.{Contains-permutation}
use Rattle.std.proofs.lemmas.Map.Keys.{IsStrictlyIncreasing-dedup}
use Rattle.pm_snapshot.specs.Names.{floor_in, floor_name, greatest}
use Rattle.pm_snapshot.proofs.Facts.{number_is}
use Rattle.pm_paths.proofs.ListLemmas.{cases, here, more, nowhere}
use Rattle.pm_expire_paths.specs.Floors.{AreFloorsBelow, if_below, listed_below}

-- a name has a floor's number exactly where it is that of the floor
floor_is : (name : List ℕ) (n : ℕ) → (floor_in name ≡ Some n) ↔ ((n ≤ greatest) × (name ≡ floor_name n))
unfolding floor_in
floor_is name n = number_is (codes "floor-") name n

same_some : (a b : ℕ) → Some a ≡ Some b → a ≡ b
same_some a b e = cc

below_some : (own k n : ℕ) → if_below own k ≡ Some n → (k ≡ n) × (n < own)
below_some own k n is = at (nat_lt k own) refl is
  where
    at : (t : Bool) → nat_lt k own ≡ t → if_below own k ≡ Some n → (k ≡ n) × (n < own)
    at true less e =
        let same : k ≡ n = same_some k n (sym (ap (λ (t : Bool). if t then Some k else None) less) ∙ e) in
        (same, (let low : k < own = grind (arith, nat_tests) in omega (arith, low, same)))
    at false over e = absurd (let none : None ≡ Some n = sym (ap (λ (t : Bool). if t then Some k else None) over) ∙ e in cc)

some_below : (own n : ℕ) → n < own → if_below own n ≡ Some n
some_below own n less = ap (λ (t : Bool). if t then Some n else None) (let is : nat_lt n own ≡ true = grind (arith, nat_tests) in is)

-- so below a number
listed_at : (own : ℕ) (o : Option ℕ) (n : ℕ) → option_and_then (if_below own) o ≡ Some n → (o ≡ Some n) × (n < own)
listed_at own None n e = absurd (let clash : None ≡ Some n = e in cc)
listed_at own (Some k) n e = let is = below_some own k n e in (ap (λ (k : ℕ). Some k) is.0, is.1)

listed_is : (own : ℕ) (name : List ℕ) (n : ℕ) → (listed_below own name ≡ Some n) ↔ ((n < own) × (n ≤ greatest) × (name ≡ floor_name n))
listed_is own name n = (
  λ e. (let parts = listed_at own (floor_in name) n e in let bears = (floor_is name n).0 parts.0 in (parts.1, bears.0, bears.1)),
  λ is. ap (option_and_then (if_below own)) ((floor_is name n).1 (is.1, is.2)) ∙ some_below own n is.0,
)

-- ---- all names

found_at : (o : Option ℕ) (ns : List ℕ) (n : ℕ) → Contains (cons_option o ns) n → (o ≡ Some n) ⊎ Contains ns n
found_at None ns n c = inr c
found_at (Some x) ns n c = elim (cases x ns n c) as (λ _. (Some x ≡ Some n) ⊎ Contains ns n) [
  | inl same ↦ inl (ap (λ (k : ℕ). Some k) same)
  | inr later ↦ inr later
]

found : (own : ℕ) (names : List (List ℕ)) (n : ℕ) → Contains (filter_map (listed_below own) names) n → (n < own) × (n ≤ greatest) × Contains names (floor_name n)
found own [] n c = absurd (nowhere n c)
found own (name ∷ names) n c = elim (found_at (listed_below own name) (filter_map (listed_below own) names) n c) as (λ _. (n < own) × (n ≤ greatest) × Contains (name ∷ names) (floor_name n)) [
  | inl e ↦ (let bears = (listed_is own name n).0 e in
      (bears.0, bears.1, subst (λ (q : List ℕ). Contains (name ∷ names) q) bears.2 (here name names)))
  | inr later ↦ (let is = found own names n later in (is.0, is.1, more name names (floor_name n) is.2))
]

at_first : (o : Option ℕ) (ns : List ℕ) (n : ℕ) → o ≡ Some n → Contains (cons_option o ns) n
at_first o ns n e = subst (λ (o : Option ℕ). Contains (cons_option o ns) n) (sym e) (here n ns)

at_later : (o : Option ℕ) (ns : List ℕ) (n : ℕ) → Contains ns n → Contains (cons_option o ns) n
at_later None ns n c = c
at_later (Some x) ns n c = more x ns n c

all_found : (own : ℕ) (names : List (List ℕ)) (n : ℕ) → n < own → n ≤ greatest → Contains names (floor_name n)
    → Contains (filter_map (listed_below own) names) n
all_found own [] n less within c = absurd (nowhere (floor_name n) c)
all_found own (name ∷ names) n less within c = elim (cases name names (floor_name n) c) as (λ _. Contains (filter_map (listed_below own) (name ∷ names)) n) [
  | inl same ↦ at_first (listed_below own name) (filter_map (listed_below own) names) n ((listed_is own name n).1 (less, within, same))
  | inr later ↦ at_later (listed_below own name) (filter_map (listed_below own) names) n (all_found own names n less within later)
]

-- sorted, and each once
pub floors_are : (own : ℕ) (names : List (List ℕ)) (listed sorted : List ℕ) → listed ≡ filter_map (listed_below own) names → IsPermutation listed sorted
    → IsPermutation sorted listed → IsSorted nat_cmp sorted → AreFloorsBelow names own (dedup eqb sorted)
floors_are own names listed sorted is there back rising = record {
  rising = IsStrictlyIncreasing-dedup sorted rising;
  exact = λ n. (
    λ c. (let has = found own names n (subst (λ (ns : List ℕ). Contains ns n) is (Contains-permutation sorted listed n back (Contains-from_dedup eqb sorted n c))) in
        ((has.1, has.2), has.0)),
    λ bears. Contains-dedup_nat sorted n (Contains-permutation listed sorted n there
        (subst (λ (ns : List ℕ). Contains ns n) (sym is) (all_found own names n bears.1 bears.0.0 bears.0.1))),
  );
}
