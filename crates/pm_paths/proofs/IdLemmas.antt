-- The ids of the snapshots that names list, and the latest of them.
use Rattle.std.proofs.Common.{◌≡◌, ◌⊎◌, inl, inr, ◌↔◌, ℕ, ◌+◌, ◌<◌, ◌≤◌, nat_lt, Bool, true, false, if◌then◌else◌, List, [], ◌∷◌, length, slice_index_or, Contains, max, Option, None, Some, option_and_then, refl, sym, ap, ◌∙◌, subst, arith}
use Rattle.std.specs.List.{filter_map, cons_option, dedup, All}
use Rattle.std.specs.List.Sorted.{IsPermutation, IsSorted}
use Rattle.std.specs.Option.{unwrap_or}
use Rattle.std.specs.Ordering.{nat_cmp}
use Rattle.std.proofs.Math.Dec.{eqb}
use Rattle.std.proofs.lemmas.Bool.Decides.{nat_tests}
use Rattle.std.proofs.lemmas.List.Elements.{All-contains_itself}
use Rattle.std.proofs.lemmas.List.Kept.{Contains-dedup_nat, Contains-from_dedup}
use Rattle.std.proofs.lemmas.List.Sorted.{Contains-permutation}
use Rattle.std.proofs.lemmas.Map.Keys.{IsStrictlyIncreasing-dedup, sorted_from_strictly_increasing}
use Rattle.std.proofs.lemmas.Map.Views.{length-le_from_below}
use Rattle.pm_paths.proofs.ListLemmas.{here, more, nowhere, cases}
use Rattle.pm_snapshot.specs.Names.{greatest, id_in, snapshot_name}
use Rattle.pm_snapshot.proofs.Facts.{id_is}
use Rattle.pm_paths.specs.Ids.{AreIds, IsLatest, after_origin, id_or_none, latest_from, listed_id}

-- ---- the latest

max_of : (a b : ℕ) → (a ≤ max a b) × (b ≤ max a b) × ((max a b ≡ a) ⊎ (max a b ≡ b))
max_of a b = (omega arith, omega arith, at (nat_lt a b) refl)
  where
    at : (t : Bool) → nat_lt a b ≡ t → (max a b ≡ a) ⊎ (max a b ≡ b)
    at true is = inr (let below : a < b = grind (arith, nat_tests) in omega (arith, below))
    at false is = inl (let above : b ≤ a = grind (arith, nat_tests) in omega (arith, above))

-- the id in a name is one that the name bears, or 0
one_id : (name : List ℕ) (o : Option ℕ) → id_in name ≡ o → (unwrap_or o 0 ≡ 0) ⊎ ((unwrap_or o 0 ≤ greatest) × (name ≡ snapshot_name (unwrap_or o 0)))
one_id name None is = inl refl
one_id name (Some id) is = inr ((id_is name id).0 is)

-- what the greatest of an id and those of names is
record IsBest (names : List (List ℕ)) (first latest : ℕ) : Type 0 where
  least : first ≤ latest
  one : (latest ≡ first) ⊎ ((latest ≤ greatest) × Contains names (snapshot_name latest))
  most : (id : ℕ) → id ≤ greatest → Contains names (snapshot_name id) → id ≤ latest

best_is : (names : List (List ℕ)) (first : ℕ) → IsBest names first (latest_from names first)
best_is [] first = record { least = omega arith; one = inl refl; most = λ id within c. absurd (nowhere (snapshot_name id) c) }
best_is (name ∷ names) first =
    let own : ℕ = id_or_none name in
    let next : ℕ = max first own in
    let latest : ℕ = latest_from names next in
    let rest : IsBest names next latest = best_is names next in
    let bounds = max_of first own in record {
      least = (let below = rest.least in let low = bounds.0 in omega (arith, below, low));
      one = elim rest.one as (λ _. (latest ≡ first) ⊎ ((latest ≤ greatest) × Contains (name ∷ names) (snapshot_name latest))) [
        | inl same ↦ elim bounds.2 as (λ _. (latest ≡ first) ⊎ ((latest ≤ greatest) × Contains (name ∷ names) (snapshot_name latest))) [
          | inl old ↦ inl (same ∙ old)
          | inr new ↦ elim (one_id name (id_in name) refl) as (λ _. (latest ≡ first) ⊎ ((latest ≤ greatest) × Contains (name ∷ names) (snapshot_name latest))) [
            | inl zero_id ↦ inl (let low = bounds.0 in omega (arith, same, new, zero_id, low))
            | inr bears ↦ (let is : latest ≡ own = same ∙ new in
                inr (
                  subst (λ n. n ≤ greatest) (sym is) bears.0,
                  subst (λ n. Contains (name ∷ names) (snapshot_name n)) (sym is)
                      (subst (λ (q : List ℕ). Contains (name ∷ names) q) bears.1 (here name names)),
                ))
          ]
        ]
        | inr later ↦ inr (later.0, more name names (snapshot_name latest) later.1)
      ];
      most = λ id within c. elim (cases name names (snapshot_name id) c) as (λ _. id ≤ latest) [
        | inl same ↦ (let is : own ≡ id = ap (λ (o : Option ℕ). unwrap_or o 0) ((id_is name id).1 (within, same)) in
            let below = rest.least in let high = bounds.1 in omega (arith, is, below, high))
        | inr later ↦ rest.most id within later
      ];
    }

pub is_latest : (names : List (List ℕ)) → IsLatest names (latest_from names 0)
is_latest names =
    let best = best_is names 0 in record {
      within = elim best.one as (λ _. latest_from names 0 ≤ greatest) [
        | inl same ↦ omega (arith, same)
        | inr listed ↦ listed.0
      ];
      listed = λ least. elim best.one as (λ _. Contains names (snapshot_name (latest_from names 0))) [
        | inl same ↦ absurd (omega (arith, same, least))
        | inr listed ↦ listed.1
      ];
      most = best.most;
    }

-- ---- a name's id

after_some : (o : Option ℕ) (id : ℕ) → option_and_then after_origin o ≡ Some id → (1 ≤ id) × (o ≡ Some id)
after_some None id e = cc
after_some (Some x) id e = at (nat_lt 0 x) refl e
  where
    at : (b : Bool) → nat_lt 0 x ≡ b → (if b then Some x else None) ≡ Some id → (1 ≤ id) × (Some x ≡ Some id)
    at true test e =
        let same : x ≡ id = cc in
        (subst (λ n. 1 ≤ n) same (grind (arith, nat_tests)), e)
    at false test e = cc

some_after : (o : Option ℕ) (id : ℕ) → 1 ≤ id → o ≡ Some id → option_and_then after_origin o ≡ Some id
some_after o id least is = ap (option_and_then after_origin) is ∙ rw above refl
  where
    above : nat_lt 0 id ≡ true
    above = grind (arith, nat_tests)

listed_is : (name : List ℕ) (id : ℕ) → (listed_id name ≡ Some id) ↔ ((1 ≤ id) × (id ≤ greatest) × (name ≡ snapshot_name id))
listed_is name id = (
  λ e. (let parts = after_some (id_in name) id e in let bears = (id_is name id).0 parts.1 in (parts.0, bears.0, bears.1)),
  λ is. some_after (id_in name) id is.0 ((id_is name id).1 (is.1, is.2)),
)

-- ---- all names

found_at : (o : Option ℕ) (ids : List ℕ) (id : ℕ) → Contains (cons_option o ids) id → (o ≡ Some id) ⊎ Contains ids id
found_at None ids id c = inr c
found_at (Some x) ids id c = elim (cases x ids id c) as (λ _. (Some x ≡ Some id) ⊎ Contains ids id) [
  | inl same ↦ inl (ap Some same)
  | inr later ↦ inr later
]

found : (names : List (List ℕ)) (id : ℕ) → Contains (filter_map listed_id names) id
    → (1 ≤ id) × (id ≤ greatest) × Contains names (snapshot_name id)
found [] id c = absurd (nowhere id c)
found (name ∷ names) id c = elim (found_at (listed_id name) (filter_map listed_id names) id c) as (λ _. (1 ≤ id) × (id ≤ greatest) × Contains (name ∷ names) (snapshot_name id)) [
  | inl e ↦ (let bears = (listed_is name id).0 e in
      (bears.0, bears.1, subst (λ (q : List ℕ). Contains (name ∷ names) q) bears.2 (here name names)))
  | inr later ↦ (let is = found names id later in (is.0, is.1, more name names (snapshot_name id) is.2))
]

at_first : (o : Option ℕ) (ids : List ℕ) (id : ℕ) → o ≡ Some id → Contains (cons_option o ids) id
at_first o ids id e = subst (λ (o : Option ℕ). Contains (cons_option o ids) id) (sym e) (here id ids)

at_later : (o : Option ℕ) (ids : List ℕ) (id : ℕ) → Contains ids id → Contains (cons_option o ids) id
at_later None ids id c = c
at_later (Some x) ids id c = more x ids id c

all_found : (names : List (List ℕ)) (id : ℕ) → 1 ≤ id → id ≤ greatest → Contains names (snapshot_name id)
    → Contains (filter_map listed_id names) id
all_found [] id least within c = absurd (nowhere (snapshot_name id) c)
all_found (name ∷ names) id least within c = elim (cases name names (snapshot_name id) c) as (λ _. Contains (filter_map listed_id (name ∷ names)) id) [
  | inl same ↦ at_first (listed_id name) (filter_map listed_id names) id ((listed_is name id).1 (least, within, same))
  | inr later ↦ at_later (listed_id name) (filter_map listed_id names) id (all_found names id least within later)
]

-- sorted, and each once
pub ids_are : (names : List (List ℕ)) (listed sorted : List ℕ) → listed ≡ filter_map listed_id names → IsPermutation listed sorted
    → IsPermutation sorted listed → IsSorted nat_cmp sorted → AreIds names (dedup eqb sorted)
ids_are names listed sorted is there back rising = record {
  rising = IsStrictlyIncreasing-dedup sorted rising;
  exact = λ id. (
    λ c. found names id (subst (λ (ids : List ℕ). Contains ids id) is (Contains-permutation sorted listed id back (Contains-from_dedup eqb sorted id c))),
    λ bears. Contains-dedup_nat sorted id (Contains-permutation listed sorted id there
        (subst (λ (ids : List ℕ). Contains ids id) (sym is) (all_found names id bears.0 bears.1 bears.2))),
  );
}

-- so many there are at most
each_below : (names : List (List ℕ)) (ids : List ℕ) → AreIds names ids → All (λ id. id < greatest + 1) ids
each_below names ids are = λ k d below.
    let bounds = ((are.exact (slice_index_or ids k d)).0 (All-contains_itself ids k d below)) in
    omega (arith, bounds.1)

pub ids_within : (names : List (List ℕ)) (ids : List ℕ) → AreIds names ids → length ids ≤ greatest + 1
ids_within names ids are =
    length-le_from_below (greatest + 1) ids (sorted_from_strictly_increasing ids are.rising) (each_below names ids are)
