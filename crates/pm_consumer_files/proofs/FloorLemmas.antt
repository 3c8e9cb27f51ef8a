-- The greatest of the floors that names list.
use Rattle.std.proofs.Common.{◌≡◌, ◌⊎◌, inl, inr, ◌↔◌, ℕ, ◌<◌, ◌≤◌, nat_lt, Bool, true, false, if◌then◌else◌, List, [], ◌∷◌, codes, Contains, Option, None, Some, refl, sym, subst, ◌∙◌, arith}
use Rattle.std.proofs.lemmas.Bool.Decides.{nat_tests}
use Rattle.pm_snapshot.specs.Names.{floor_in, floor_name, greatest}
use Rattle.pm_snapshot.proofs.Facts.{number_is}
use Rattle.pm_paths.proofs.ListLemmas.{cases, here, more, nowhere}
use Rattle.pm_consumer_files.specs.Floors.{Exceeds, IsListedFloor, above, greatest_from, with_number}

-- a name has a floor's number exactly where it is that of the floor
floor_is : (name : List ℕ) (n : ℕ) → (floor_in name ≡ Some n) ↔ ((n ≤ greatest) × (name ≡ floor_name n))
unfolding floor_in
floor_is name n = number_is (codes "floor-") name n

none_some : {P : Type 0} (n : ℕ) → None ≡ Some n → P
none_some n e = cc

one_number : (a b : ℕ) → Some a ≡ Some b → a ≡ b
one_number a b e = cc

-- what the greatest of a number and of the floors in names is
record IsBest (names : List (List ℕ)) (first best : ℕ) : Type 0 where
  least : first ≤ best
  one : (best ≡ first) ⊎ IsListedFloor names best
  most : (n : ℕ) → IsListedFloor names n → n ≤ best

listed_more : (name : List ℕ) (names : List (List ℕ)) (n : ℕ) → IsListedFloor names n → IsListedFloor (name ∷ names) n
listed_more name names n listed = (listed.0, more name names (floor_name n) listed.1)

-- where the first name is no floor
best_other : (name : List ℕ) (names : List (List ℕ)) (first best : ℕ) → floor_in name ≡ None → IsBest names first best → IsBest (name ∷ names) first best
best_other name names first best is rest = record {
  least = rest.least;
  one = elim rest.one as (λ _. (best ≡ first) ⊎ IsListedFloor (name ∷ names) best) [
    | inl same ↦ inl same
    | inr listed ↦ inr (listed_more name names best listed)
  ];
  most = λ n listed. elim (cases name names (floor_name n) listed.1) as (λ _. n ≤ best) [
    | inl same ↦ none_some n (sym is ∙ (floor_is name n).1 (listed.0, same))
    | inr later ↦ rest.most n (listed.0, later)
  ];
}

-- where it is one, the greatest goes on from one that is at least as great
best_floor : (name : List ℕ) (names : List (List ℕ)) (first k next best : ℕ) → floor_in name ≡ Some k → first ≤ next → k ≤ next → (next ≡ first) ⊎ (next ≡ k)
    → IsBest names next best → IsBest (name ∷ names) first best
best_floor name names first k next best is low high which rest = record {
  least = (let over = rest.least in omega (arith, low, over));
  one = elim rest.one as (λ _. (best ≡ first) ⊎ IsListedFloor (name ∷ names) best) [
    | inl same ↦ elim which as (λ _. (best ≡ first) ⊎ IsListedFloor (name ∷ names) best) [
      | inl old ↦ inl (same ∙ old)
      | inr new ↦ (let own = (floor_is name k).0 is in
          inr (subst (λ (n : ℕ). IsListedFloor (name ∷ names) n) (sym (same ∙ new))
          (own.0, subst (λ (q : List ℕ). Contains (name ∷ names) q) own.1 (here name names))))
    ]
    | inr listed ↦ inr (listed_more name names best listed)
  ];
  most = λ n listed. elim (cases name names (floor_name n) listed.1) as (λ _. n ≤ best) [
    | inl same ↦ (let number = one_number k n (sym is ∙ (floor_is name n).1 (listed.0, same)) in
        let over = rest.least in omega (arith, number, high, over))
    | inr later ↦ rest.most n (listed.0, later)
  ];
}

best_is : (names : List (List ℕ)) (first : ℕ) → IsBest names first (greatest_from names first)
best_is [] first = record { least = omega arith; one = inl refl; most = λ n listed. absurd (nowhere (floor_name n) listed.1) }
best_is (name ∷ names) first = at (floor_in name) refl (best_is names)
  where
    bigger : (k : ℕ) (t : Bool) → nat_lt first k ≡ t → floor_in name ≡ Some k → ((n : ℕ) → IsBest names n (greatest_from names n))
        → IsBest (name ∷ names) first (greatest_from names (if t then k else first))
    bigger k true test is later = best_floor name names first k k (greatest_from names k) is
        (let below : first < k = grind (arith, nat_tests) in omega (arith, below)) (omega arith) (inr refl) (later k)
    bigger k false test is later = best_floor name names first k first (greatest_from names first) is
        (omega arith) (let above : k ≤ first = grind (arith, nat_tests) in above) (inl refl) (later first)

    at : (o : Option ℕ) → floor_in name ≡ o → ((n : ℕ) → IsBest names n (greatest_from names n)) → IsBest (name ∷ names) first (greatest_from names (with_number first o))
    at None is later = best_other name names first (greatest_from names first) is (later first)
    at (Some k) is later = bigger k (nat_lt first k) refl is later

pub exceeds_is : (names : List (List ℕ)) (next : ℕ) → Exceeds names next (above next (greatest_from names 0))
exceeds_is names next = at (greatest_from names 0) (best_is names 0) (nat_lt next (greatest_from names 0)) refl
  where
    at : (best : ℕ) → IsBest names 0 best → (t : Bool) → nat_lt next best ≡ t → Exceeds names next (if t then Some best else None)
    at best is true test =
        let below : next < best = grind (arith, nat_tests) in (
          record {
            listed = elim is.one as (λ _. IsListedFloor names best) [
              | inl zero ↦ absurd (omega (arith, zero, below))
              | inr listed ↦ listed
            ];
            most = is.most;
          },
          below,
        )
    at best is false test = λ n listed.
        let over : best ≤ next = grind (arith, nat_tests) in
        let high = is.most n listed in omega (arith, over, high)
