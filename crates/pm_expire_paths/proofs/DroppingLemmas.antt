-- Paths that are put in order, and searched.
use Rattle.std.proofs.Common.{◌≡◌, ◌↔◌, ◌⊎◌, inl, inr, ℕ, ◌<◌, ◌≤◌, nat_lt, List, [], ◌∷◌, ◌++◌, Contains, length, get_or, true, false, refl, sym, ap, subst, ◌∙◌, arith}
use Rattle.std.specs.Cmp.Lexicographic.{bytes_decides, nat_list_cmp_total, nat_list_eq_equiv, pointwise, slice_cmp}
use Rattle.std.specs.List.{dedup}
use Rattle.std.specs.List.Sorted.{IsNonDecreasingBy, IsPartitionPoint, IsPermutation, IsStrictlySortedBy}
use Rattle.std.specs.Ordering.{nat_cmp, ordering_index}
use Rattle.std.specs.declared.cmp.Ordering.{Ordering}
use Rattle.std.specs.declared.cmp.Ordering.TheVariants.{Less, Equal, Greater}
use Rattle.std.proofs.Math.Dec.{eqb}
use Rattle.std.proofs.lemmas.Bool.Decides.{nat_tests}
use Rattle.std.proofs.lemmas.Cmp.{tied_itself}
use Rattle.std.proofs.lemmas.List.Elements.{Contains-append_left, Contains-append_right, Contains-append_cases, Contains-push, Contains-push_cases}
use Rattle.std.proofs.lemmas.List.Kept.{Contains-dedup, Contains-from_dedup}
use Rattle.std.proofs.lemmas.List.Sorted.{Contains-permutation, IsPermutation-sym}
use Rattle.std.proofs.lemmas.Map.Keys.{Less-from_sorted}
use Rattle.std.proofs.lemmas.Map.Lookups.{exact_bytes}
use Rattle.pm_model_folder.proofs.Facts.{same-path}
use Rattle.pm_paths.proofs.ListLemmas.{cases, here, more, nowhere}
use Rattle.pm_expire_paths.specs.Dropping.{dropping_of, Adds, AreDropped, HasOrLacks, IsSeen}

-- paths that are put in order, each once, are the same paths
pub same_paths : (paths sorted once : List (List ℕ)) → IsPermutation paths sorted → once ≡ dedup (pointwise eqb) sorted → (path : List ℕ)
    → Contains once path ↔ Contains paths path
same_paths paths sorted once moved is path = (
  λ has. Contains-permutation sorted paths path (IsPermutation-sym paths sorted moved)
      (Contains-from_dedup (pointwise eqb) sorted path (subst (λ (xs : List (List ℕ)). Contains xs path) is has)),
  λ has. subst (λ (xs : List (List ℕ)). Contains xs path) (sym is)
      (Contains-dedup nat_list_eq_equiv (λ x y same. (bytes_decides x y).0 same) sorted path (Contains-permutation paths sorted path moved has)),
)

-- none are in order
pub none-sorted : IsStrictlySortedBy (slice_cmp nat_cmp) []
unfolding IsStrictlySortedBy
none-sorted = tt

-- ---- a search

top : (o : Ordering) → ordering_index o ≤ 2
top Less = omega arith
top Equal = omega arith
top Greater = omega arith

-- what is below a path compares with another as it does, or is below that
before : (x a b : List ℕ) → slice_cmp nat_cmp a b ≡ Less → ordering_index (slice_cmp nat_cmp a x) ≤ ordering_index (slice_cmp nat_cmp b x)
before x a b less = at (slice_cmp nat_cmp b x) refl
  where
    at : (o : Ordering) → slice_cmp nat_cmp b x ≡ o → ordering_index (slice_cmp nat_cmp a x) ≤ ordering_index o
    at Less e = omega (arith, ap ordering_index (nat_list_cmp_total.trans a b x less e))
    at Equal e = omega (arith, ap ordering_index (ap (slice_cmp nat_cmp a) (sym (exact_bytes b x e)) ∙ less))
    at Greater e = top (slice_cmp nat_cmp a x)

rises : (xs : List (List ℕ)) (x : List ℕ) → IsStrictlySortedBy (slice_cmp nat_cmp) xs → IsNonDecreasingBy (λ y. ordering_index (slice_cmp nat_cmp y x)) xs
rises xs x sorted i j d low within = elim (nat_lt i j) as (λ t. nat_lt i j ≡ t
    → ordering_index (slice_cmp nat_cmp (get_or xs i d) x) ≤ ordering_index (slice_cmp nat_cmp (get_or xs j d) x)) [
      | true ↦ λ e. before x (get_or xs i d) (get_or xs j d)
          (Less-from_sorted (slice_cmp nat_cmp) xs i j d sorted (let less : i < j = grind (arith, nat_tests) in less) within)
      | false ↦ λ e.
          let high : j ≤ i = grind (arith, nat_tests) in
          let same : i ≡ j = omega (arith, low, high) in
          omega (arith, ap (λ (k : ℕ). ordering_index (slice_cmp nat_cmp (get_or xs k d) x)) same)
    ] refl

-- where a search finds nothing the path isn't among them
pub not_found : (xs : List (List ℕ)) (x : List ℕ) (i : ℕ) → IsStrictlySortedBy (slice_cmp nat_cmp) xs
    → (IsNonDecreasingBy (λ y. ordering_index (slice_cmp nat_cmp y x)) xs
    → IsPartitionPoint (λ y. slice_cmp nat_cmp y x ≡ Less) (λ y. slice_cmp nat_cmp y x ≡ Greater) xs i)
    → Contains xs x → ⊥
not_found xs x i sorted parts (k, below, is) = elim (nat_lt k i) as (λ t. nat_lt k i ≡ t → ⊥) [
  | true ↦ λ e. clash Less (λ (e : Less ≡ Equal). cc) (parted.0 k x (omega arith) (grind (arith, nat_tests)))
  | false ↦ λ e. clash Greater (λ (e : Greater ≡ Equal). cc) (parted.1 k x (grind (arith, nat_tests)) below)
] refl
  where
    parted : IsPartitionPoint (λ y. slice_cmp nat_cmp y x ≡ Less) (λ y. slice_cmp nat_cmp y x ≡ Greater) xs i
    parted = parts (rises xs x sorted)

    clash : (o : Ordering) → (o ≡ Equal → ⊥) → slice_cmp nat_cmp (get_or xs k x) x ≡ o → ⊥
    clash o other e = other (sym e ∙ (ap (λ (y : List ℕ). slice_cmp nat_cmp y x) is ∙ tied_itself nat_list_cmp_total x))

-- and where it finds one it is
pub found : (xs : List (List ℕ)) (x : List ℕ) (i : ℕ) → i < length xs → slice_cmp nat_cmp (get_or xs i x) x ≡ Equal → Contains xs x
found xs x i below tied = (i, below, exact_bytes (get_or xs i x) x tied)

-- ---- a step

-- of the others one is left less, which is among these or lacking in some
pub one_less : (all more left sorted : List (List ℕ)) (one : List ℕ) → ((path : List ℕ) → Contains more path ↔ HasOrLacks all (one ∷ []) sorted path)
    → (path : List ℕ) → HasOrLacks more left sorted path ↔ HasOrLacks all (left ++ one ∷ []) sorted path
one_less all more left sorted one is path = (
  λ has. elim has as (λ _. HasOrLacks all (left ++ one ∷ []) sorted path) [
    | inl among ↦ elim ((is path).0 among) as (λ _. HasOrLacks all (left ++ one ∷ []) sorted path) [
      | inl old ↦ inl old
      | inr lacks ↦ inr (Contains-append_right left (one ∷ []) path lacks.0, lacks.1)
    ]
    | inr lacks ↦ inr (Contains-append_left left (one ∷ []) path lacks.0, lacks.1)
  ],
  λ has. elim has as (λ _. HasOrLacks more left sorted path) [
    | inl old ↦ inl ((is path).1 (inl old))
    | inr lacks ↦ elim (Contains-append_cases left (one ∷ []) path lacks.0) as (λ _. HasOrLacks more left sorted path) [
      | inl before ↦ inr (before, lacks.1)
      | inr now ↦ inl ((is path).1 (inr (now, lacks.1)))
    ]
  ],
)

-- of paths that aren't lacking none is added
pub as_before : (all sorted : List (List ℕ)) (one : List ℕ) → Contains sorted one → (path : List ℕ) → Contains all path ↔ HasOrLacks all (one ∷ []) sorted path
as_before all sorted one among path = (
  λ old. inl old,
  λ has. elim has as (λ _. Contains all path) [
    | inl old ↦ old
    | inr lacks ↦ absurd (lacks.1 (subst (Contains sorted) (only one path lacks.0) among))
  ],
)
  where
    only : (one path : List ℕ) → Contains (one ∷ []) path → one ≡ path
    only one path there = elim (Contains-push_cases [] one path there) as (λ _. one ≡ path) [
      | inl none ↦ absurd (let below = none.1 in omega (arith, below))
      | inr same ↦ same
    ]

-- and one that is lacking is
pub one_more : (all sorted : List (List ℕ)) (one : List ℕ) → (Contains sorted one → ⊥) → (path : List ℕ)
    → Contains (all ++ one ∷ []) path ↔ HasOrLacks all (one ∷ []) sorted path
one_more all sorted one lacks path = (
  λ has. elim (Contains-push_cases all one path has) as (λ _. HasOrLacks all (one ∷ []) sorted path) [
    | inl old ↦ inl old
    | inr same ↦ inr (subst (Contains (one ∷ [])) same (Contains-push [] one), λ among. lacks (subst (Contains sorted) (sym same) among))
  ],
  λ has. elim has as (λ _. Contains (all ++ one ∷ []) path) [
    | inl old ↦ Contains-append_left all (one ∷ []) path old
    | inr here ↦ Contains-append_right all (one ∷ []) path here.0
  ],
)

-- so a step leaves what there is to add
pub step : (all more old left sorted paths others : List (List ℕ)) (one : List ℕ) → old ≡ left ++ one ∷ []
    → ((path : List ℕ) → Contains more path ↔ HasOrLacks all (one ∷ []) sorted path)
    → ((path : List ℕ) → HasOrLacks all old sorted path ↔ HasOrLacks paths others sorted path)
    → (path : List ℕ) → HasOrLacks more left sorted path ↔ HasOrLacks paths others sorted path
step all more old left sorted paths others one parts is so path =
    let less = one_less all more left sorted one is path in
    let whole : HasOrLacks all (left ++ one ∷ []) sorted path ↔ HasOrLacks paths others sorted path
    = subst (λ (xs : List (List ℕ)). HasOrLacks all xs sorted path ↔ HasOrLacks paths others sorted path) parts (so path) in
    (λ has. whole.0 (less.0 has), λ has. less.1 (whole.1 has))

-- and where none are left all were added
pub ended : (all left sorted paths others : List (List ℕ)) → length left ≡ 0
    → ((path : List ℕ) → HasOrLacks all left sorted path ↔ HasOrLacks paths others sorted path)
    → (path : List ℕ) → Contains all path ↔ HasOrLacks paths others sorted path
ended all [] sorted paths others none so path = (
  λ among. (so path).0 (inl among),
  λ has. elim ((so path).1 has) as (λ _. Contains all path) [
    | inl among ↦ among
    | inr lacks ↦ absurd (nowhere path lacks.0)
  ],
)
ended all (one ∷ left) sorted paths others none so path = absurd (omega (arith, none))

-- ---- what a view adds, and what is dropped

-- a path is among some or it isn't
pub either : (xs : List (List ℕ)) (path : List ℕ) → Contains xs path ⊎ (Contains xs path → ⊥)
either [] path = inr (λ c. nowhere path c)
either (x ∷ xs) path = elim (same-path x path) as (λ _. Contains (x ∷ xs) path ⊎ (Contains (x ∷ xs) path → ⊥)) [
  | inl same ↦ inl (subst (Contains (x ∷ xs)) same (here x xs))
  | inr other ↦ elim (either xs path) as (λ _. Contains (x ∷ xs) path ⊎ (Contains (x ∷ xs) path → ⊥)) [
    | inl among ↦ inl (more x xs path among)
    | inr none ↦ inr (λ c. elim (cases x xs path c) as (λ _. ⊥) [
      | inl same ↦ other same
      | inr later ↦ none later
    ])
  ]
]

pub adds : (kept gone paths ordered all : List (List ℕ)) → ((path : List ℕ) → Contains ordered path ↔ Contains paths path)
    → ((path : List ℕ) → Contains all path ↔ HasOrLacks gone kept ordered path) → ((path : List ℕ) → Contains ordered path ⊎ (Contains ordered path → ⊥))
    → Adds (dropping_of kept gone) paths (dropping_of ordered all)
adds kept gone paths ordered all same has either = record {
  kept = same;
  seen = λ path. (
    λ seen. elim seen as (λ _. IsSeen (dropping_of kept gone) path ⊎ Contains paths path) [
      | inl in_all ↦ elim ((has path).0 in_all) as (λ _. IsSeen (dropping_of kept gone) path ⊎ Contains paths path) [
        | inl old ↦ inl (inl old)
        | inr lacks ↦ inl (inr lacks.0)
      ]
      | inr new ↦ inr ((same path).0 new)
    ],
    λ before. elim before as (λ _. IsSeen (dropping_of ordered all) path) [
      | inl old ↦ elim old as (λ _. IsSeen (dropping_of ordered all) path) [
        | inl in_gone ↦ inl ((has path).1 (inl in_gone))
        | inr in_kept ↦ elim (either path) as (λ _. IsSeen (dropping_of ordered all) path) [
          | inl among ↦ inr among
          | inr lacks ↦ inl ((has path).1 (inr (in_kept, lacks)))
        ]
      ]
      | inr new ↦ inr ((same path).1 new)
    ],
  );
  new = λ path held. elim ((has path).0 held) as (λ _. Contains gone path ⊎ (Contains paths path → ⊥)) [
    | inl old ↦ inl old
    | inr lacks ↦ inr (λ among. lacks.1 ((same path).1 among))
  ];
}

pub dropped : (kept gone all ordered : List (List ℕ)) → IsStrictlySortedBy (slice_cmp nat_cmp) ordered
    → ((path : List ℕ) → Contains all path ↔ HasOrLacks [] gone kept path) → ((path : List ℕ) → Contains ordered path ↔ Contains all path)
    → AreDropped (dropping_of kept gone) ordered
dropped kept gone all ordered rising has same = record {
  rising = rising;
  exact = λ path. (
    λ among. elim ((has path).0 ((same path).0 among)) as (λ _. Contains gone path × (Contains kept path → ⊥)) [
      | inl none ↦ absurd (let below = none.1 in omega (arith, below))
      | inr lacks ↦ lacks
    ],
    λ lacks. (same path).1 ((has path).1 (inr lacks)),
  );
}
