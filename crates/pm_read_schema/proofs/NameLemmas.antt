-- What is found among names, against what they list.
use Rattle.std.proofs.Common.{◌≡◌, ◌⊎◌, inl, inr, ◌↔◌, ℕ, ◌≤◌, List, [], ◌∷◌, Contains, codes, nat_lt, Bool, true, false, IsTrue, if◌then◌else◌, ◌||◌, Option, None, Some, IfSome, IfNone, refl, sym, ap, ◌∙◌, subst, arith}
use Rattle.std.specs.List.{list_any}
use Rattle.std.proofs.lemmas.Bool.Decides.{nat_tests}
use Rattle.pm_paths.proofs.ListLemmas.{here, more, nowhere, cases}
use Rattle.pm_snapshot.specs.Names.{greatest, id_in, snapshot_name}
use Rattle.pm_snapshot.proofs.Facts.{number_is, id_is}
use Rattle.pm_model_folder.specs.Paths.{schema_name}
use Rattle.pm_read_schema.specs.Names.{schema_id_in, IsNewest, HasNoSchema, HasSnapshot, greater, newest_from, is_after_origin, names_snapshot}

-- ---- one name

pub schema_id_is : (name : List ℕ) (id : ℕ) → (schema_id_in name ≡ Some id) ↔ ((id ≤ greatest) × (name ≡ schema_name id))
unfolding schema_id_in
schema_id_is name id = number_is (codes "schema-") name id

some_inj : {A : Type 0} (x y : A) → Some x ≡ Some y → x ≡ y
some_inj x y e = cc

-- ---- the newest schema

greater_none : (a b : Option ℕ) → greater a b ≡ None → (a ≡ None) × (b ≡ None)
greater_none None None e = (refl, refl)
greater_none None (Some y) e = cc
greater_none (Some x) None e = cc
greater_none (Some x) (Some y) e = absurd (none_at (nat_lt x y) e)
  where
    none_at : (t : Bool) → (if t then Some y else Some x) ≡ None → ⊥
    none_at true e = cc
    none_at false e = cc

greater_one : (a b : Option ℕ) (id : ℕ) → greater a b ≡ Some id → (a ≡ Some id) ⊎ (b ≡ Some id)
greater_one None b id e = inr e
greater_one (Some x) None id e = inl e
greater_one (Some x) (Some y) id e = one_at (nat_lt x y) e
  where
    one_at : (t : Bool) → (if t then Some y else Some x) ≡ Some id → (Some x ≡ Some id) ⊎ (Some y ≡ Some id)
    one_at true e = inr e
    one_at false e = inl e

greater_most : (a b : Option ℕ) (id : ℕ) → IfSome (greater a b) (λ most. most ≤ id) → IfSome a (λ x. x ≤ id) × IfSome b (λ y. y ≤ id)
greater_most None None id most = (tt, tt)
greater_most None (Some y) id most = (tt, most)
greater_most (Some x) None id most = (most, tt)
greater_most (Some x) (Some y) id most = most_at (nat_lt x y) refl most
  where
    most_at : (t : Bool) → nat_lt x y ≡ t → IfSome (if t then Some y else Some x) (λ most. most ≤ id) → (x ≤ id) × (y ≤ id)
    most_at true test most = (grind (arith, nat_tests), most)
    most_at false test most = (most, grind (arith, nat_tests))

-- what the greatest of an id and of those that names bear says
IsBest : List (List ℕ) → Option ℕ → Option ℕ → Type 0
IsBest names best None = (best ≡ None) × HasNoSchema names
IsBest names best (Some id) =
    ((best ≡ Some id) ⊎ ((id ≤ greatest) × Contains names (schema_name id)))
    × IfSome best (λ b. b ≤ id)
    × ((other : ℕ) → other ≤ greatest → Contains names (schema_name other) → other ≤ id)

-- a schema that one name more lists is that name's, or another's
listed : (name : List ℕ) (names : List (List ℕ)) (other : ℕ) → other ≤ greatest → Contains (name ∷ names) (schema_name other)
    → (schema_id_in name ≡ Some other) ⊎ Contains names (schema_name other)
listed name names other within c = elim (cases name names (schema_name other) c) as (λ _. (schema_id_in name ≡ Some other) ⊎ Contains names (schema_name other)) [
  | inl same ↦ inl ((schema_id_is name other).1 (within, same))
  | inr later ↦ inr later
]

one_best : (name : List ℕ) (names : List (List ℕ)) (best r : Option ℕ) → IsBest names (greater best (schema_id_in name)) r → IsBest (name ∷ names) best r
unfolding IsBest
one_best name names best None is =
    let both = greater_none best (schema_id_in name) is.0 in (
      both.0,
      λ id within c. elim (listed name names id within c) as (λ _. ⊥) [
        | inl same ↦ (let clash : None ≡ Some id = sym both.1 ∙ same in cc)
        | inr later ↦ is.1 id within later
      ],
    )
one_best name names best (Some id) is =
    let bounds = greater_most best (schema_id_in name) id is.1 in (
      elim is.0 as (λ _. (best ≡ Some id) ⊎ ((id ≤ greatest) × Contains (name ∷ names) (schema_name id))) [
        | inl same ↦ elim (greater_one best (schema_id_in name) id same) as (λ _. (best ≡ Some id) ⊎ ((id ≤ greatest) × Contains (name ∷ names) (schema_name id))) [
          | inl old ↦ inl old
          | inr new ↦ (let bears = (schema_id_is name id).0 new in
              inr (bears.0, subst (λ (q : List ℕ). Contains (name ∷ names) q) bears.1 (here name names)))
        ]
        | inr later ↦ inr (later.0, more name names (schema_name id) later.1)
      ],
      bounds.0,
      λ other within c. elim (listed name names other within c) as (λ _. other ≤ id) [
        | inl same ↦ subst (λ (found : Option ℕ). IfSome found (λ y. y ≤ id)) same bounds.1
        | inr later ↦ is.2 other within later
      ],
    )

best_is : (names : List (List ℕ)) (best : Option ℕ) → IsBest names best (newest_from names best)
unfolding IsBest
best_is [] None = (refl, λ id within c. nowhere (schema_name id) c)
best_is [] (Some b) = (inl refl, omega arith, λ other within c. absurd (nowhere (schema_name other) c))
best_is (name ∷ names) best =
    one_best name names best (newest_from names (greater best (schema_id_in name))) (best_is names (greater best (schema_id_in name)))

newest_at : (names : List (List ℕ)) (r : Option ℕ) → IsBest names None r → IfSome r (IsNewest names) × IfNone r (HasNoSchema names)
unfolding IsBest
newest_at names None is = (tt, is.1)
newest_at names (Some id) is =
    let at : (id ≤ greatest) × Contains names (schema_name id) = elim is.0 as (λ _. (id ≤ greatest) × Contains names (schema_name id)) [
      | inl other ↦ cc
      | inr at ↦ at
    ] in
    (record { within = at.0; listed = at.1; most = is.2 }, tt)

pub newest_is : (names : List (List ℕ)) → IfSome (newest_from names None) (IsNewest names) × IfNone (newest_from names None) (HasNoSchema names)
newest_is names = newest_at names (newest_from names None) (best_is names None)

-- ---- a snapshot

after_some : (o : Option ℕ) → is_after_origin o ≡ true → (id : ℕ) × (o ≡ Some id) × (1 ≤ id)
after_some None e = cc
after_some (Some id) e = (id, refl, grind (arith, nat_tests))

some_after : (o : Option ℕ) (id : ℕ) → o ≡ Some id → 1 ≤ id → is_after_origin o ≡ true
some_after o id is least = ap is_after_origin is ∙ above
  where
    above : nat_lt 0 id ≡ true
    above = grind (arith, nat_tests)

has_more : (name : List ℕ) (names : List (List ℕ)) → HasSnapshot names → HasSnapshot (name ∷ names)
has_more name names (id, least, within, c) = (id, least, within, more name names (snapshot_name id) c)

any_at : (name : List ℕ) (names : List (List ℕ)) (b : Bool) → names_snapshot name ≡ b
    → (IsTrue (list_any names_snapshot names) → HasSnapshot names) → IsTrue (b || list_any names_snapshot names)
    → HasSnapshot (name ∷ names)
any_at name names true is rest any =
    let one = after_some (id_in name) is in
    let bears = (id_is name one.0).0 one.1 in
    (one.0, one.2, bears.0, subst (λ (q : List ℕ). Contains (name ∷ names) q) bears.1 (here name names))
any_at name names false is rest any = has_more name names (rest any)

has_any : (names : List (List ℕ)) → IsTrue (list_any names_snapshot names) → HasSnapshot names
has_any [] any = cc
has_any (name ∷ names) any = any_at name names (names_snapshot name) refl (has_any names) any

any_has : (names : List (List ℕ)) → HasSnapshot names → IsTrue (list_any names_snapshot names)
any_has [] (id, least, within, c) = absurd (nowhere (snapshot_name id) c)
any_has (name ∷ names) (id, least, within, c) = elim (cases name names (snapshot_name id) c) as (λ _. IsTrue (list_any names_snapshot (name ∷ names))) [
  | inl same ↦ subst (λ (b : Bool). IsTrue (b || list_any names_snapshot names)) (sym (some_after (id_in name) id ((id_is name id).1 (within, same)) least)) refl
  | inr later ↦ or_true (names_snapshot name) (any_has names (id, least, within, later))
]
  where
    or_true : (b : Bool) → IsTrue (list_any names_snapshot names) → IsTrue (b || list_any names_snapshot names)
    or_true true is = refl
    or_true false is = is

pub any_is : (names : List (List ℕ)) → IsTrue (list_any names_snapshot names) ↔ HasSnapshot names
any_is names = (has_any names, any_has names)
