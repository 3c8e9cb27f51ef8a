-- Items of lists, one by one.
use Rattle.std.proofs.Common.{◌≡◌, ℕ, zero, suc, ◌<◌, ◌||◌, Bool, true, false, true≢false, cond, List, [], ◌∷◌, ◌++◌, length, map, filter, get_or, None, Some, ◌⊎◌, inl, inr, Contains, refl, sym, ap, subst, ◌∙◌, arith}
use Rattle.std.specs.List.{AllByRecursion, AllPairs, find, list_any}
use Rattle.std.proofs.lemmas.List.Elements.{Contains-append_right}

module _ {X : Type 0} where
  pub none-in : (x : X) → Contains [] x → ⊥
  none-in x h = let w : h.0 < length {A = X} [] = h.1 in omega arith

  pub in-head : (x : X) (xs : List X) → Contains (x ∷ xs) x
  in-head x xs = (0, omega arith, refl)

  pub in-tail : (x : X) (xs : List X) (y : X) → Contains xs y → Contains (x ∷ xs) y
  in-tail x xs y h = Contains-append_right (x ∷ []) xs y h

  at-or : (x : X) (xs : List X) (y : X) (k : ℕ) → k < length (x ∷ xs) → get_or (x ∷ xs) k y ≡ y → (x ≡ y) ⊎ Contains xs y
  at-or x xs y zero within is = inl is
  at-or x xs y (suc k) within is = inr (k, omega arith, is)

  pub in-or : (x : X) (xs : List X) (y : X) → Contains (x ∷ xs) y → (x ≡ y) ⊎ Contains xs y
  in-or x xs y h = at-or x xs y h.0 h.1 h.2

  pub in-left : (xs ys : List X) (x : X) → Contains xs x → Contains (xs ++ ys) x
  in-left [] ys x h = absurd (none-in x h)
  in-left (y ∷ xs) ys x h = elim (in-or y xs x h) as (λ _. Contains (y ∷ xs ++ ys) x) [
    | inl is ↦ subst (Contains (y ∷ xs ++ ys)) is (in-head y (xs ++ ys))
    | inr more ↦ in-tail y (xs ++ ys) x (in-left xs ys x more)
  ]

  pub in-right : (xs ys : List X) (x : X) → Contains ys x → Contains (xs ++ ys) x
  in-right [] ys x h = h
  in-right (y ∷ xs) ys x h = in-tail y (xs ++ ys) x (in-right xs ys x h)

  pub in-either : (xs ys : List X) (x : X) → Contains (xs ++ ys) x → Contains xs x ⊎ Contains ys x
  in-either [] ys x h = inr h
  in-either (y ∷ xs) ys x h = elim (in-or y (xs ++ ys) x h) as (λ _. Contains (y ∷ xs) x ⊎ Contains ys x) [
    | inl is ↦ inl (subst (Contains (y ∷ xs)) is (in-head y xs))
    | inr more ↦ elim (in-either xs ys x more) as (λ _. Contains (y ∷ xs) x ⊎ Contains ys x) [
      | inl left ↦ inl (in-tail y xs x left)
      | inr right ↦ inr right
    ]
  ]

  -- what holds of each item of a list holds of one in it
  pub each-of : (P : X → Type 0) (xs : List X) (x : X) → AllByRecursion P xs → Contains xs x → P x
  each-of P [] x all h = absurd (none-in x h)
  each-of P (y ∷ xs) x all h = elim (in-or y xs x h) as (λ _. P x) [
    | inl is ↦ subst P is all.0
    | inr more ↦ each-of P xs x all.1 more
  ]

  pub all-of : (P : X → Type 0) (xs : List X) → ((x : X) → Contains xs x → P x) → AllByRecursion P xs
  all-of P [] each = tt
  all-of P (x ∷ xs) each = (each x (in-head x xs), all-of P xs (λ y h. each y (in-tail x xs y h)))

  pub all-weaker : (P Q : X → Type 0) → ((x : X) → P x → Q x) → (xs : List X) → AllByRecursion P xs → AllByRecursion Q xs
  all-weaker P Q weaker [] all = tt
  all-weaker P Q weaker (x ∷ xs) all = (weaker x all.0, all-weaker P Q weaker xs all.1)

  -- ---- items that pass a test

  pub in-filter : (p : X → Bool) (xs : List X) (x : X) → Contains xs x → p x ≡ true → Contains (filter p xs) x
  in-filter p [] x h is = absurd (none-in x h)
  in-filter p (y ∷ xs) x h is = at (p y) refl (λ more. in-filter p xs x more is)
    where
      at : (t : Bool) → p y ≡ t → (Contains xs x → Contains (filter p xs) x) → Contains (cond t (y ∷ filter p xs) (filter p xs)) x
      at true passes rest = elim (in-or y xs x h) as (λ _. Contains (y ∷ filter p xs) x) [
        | inl same ↦ subst (Contains (y ∷ filter p xs)) same (in-head y (filter p xs))
        | inr more ↦ in-tail y (filter p xs) x (rest more)
      ]
      at false fails rest = elim (in-or y xs x h) as (λ _. Contains (filter p xs) x) [
        | inl same ↦ absurd (true≢false (sym is ∙ ap p (sym same) ∙ fails))
        | inr more ↦ rest more
      ]

  pub filter-in : (p : X → Bool) (xs : List X) (x : X) → Contains (filter p xs) x → Contains xs x × (p x ≡ true)
  filter-in p [] x h = absurd (none-in x h)
  filter-in p (y ∷ xs) x h = at (p y) refl (filter-in p xs x) h
    where
      at : (t : Bool) → p y ≡ t → (Contains (filter p xs) x → Contains xs x × (p x ≡ true)) → Contains (cond t (y ∷ filter p xs) (filter p xs)) x
          → Contains (y ∷ xs) x × (p x ≡ true)
      at true passes rest h = elim (in-or y (filter p xs) x h) as (λ _. Contains (y ∷ xs) x × (p x ≡ true)) [
        | inl same ↦ (subst (Contains (y ∷ xs)) same (in-head y xs), subst (λ (z : X). p z ≡ true) same passes)
        | inr more ↦ (in-tail y xs x (rest more).0, (rest more).1)
      ]
      at false fails rest h = (in-tail y xs x (rest h).0, (rest h).1)

  pub any-in : (p : X → Bool) (xs : List X) → list_any p xs ≡ true → (x : X) × Contains xs x × (p x ≡ true)
  any-in p [] is = absurd (true≢false (sym is))
  any-in p (y ∷ xs) is = at (p y) refl (any-in p xs) is
    where
      at : (t : Bool) → p y ≡ t → (list_any p xs ≡ true → (x : X) × Contains xs x × (p x ≡ true)) → (t || list_any p xs) ≡ true
          → (x : X) × Contains (y ∷ xs) x × (p x ≡ true)
      at true passes rest is = (y, in-head y xs, passes)
      at false fails rest is = let found = rest is in (found.0, in-tail y xs found.0 found.1, found.2)

  pub any-not : (p : X → Bool) (xs : List X) → list_any p xs ≡ false → (x : X) → Contains xs x → p x ≡ false
  any-not p [] is x h = absurd (none-in x h)
  any-not p (y ∷ xs) is x h = at (p y) refl (λ less. any-not p xs less x) is
    where
      at : (t : Bool) → p y ≡ t → (list_any p xs ≡ false → Contains xs x → p x ≡ false) → (t || list_any p xs) ≡ false → p x ≡ false
      at true passes rest is = absurd (true≢false is)
      at false fails rest is = elim (in-or y xs x h) as (λ _. p x ≡ false) [
        | inl same ↦ subst (λ (z : X). p z ≡ false) same fails
        | inr more ↦ rest is more
      ]

  some-no : (x : X) → Some x ≡ None → ⊥
  some-no x is = cc

  -- none is found where none passes
  pub none-found : (p : X → Bool) (xs : List X) → find p xs ≡ None → (x : X) → Contains xs x → p x ≡ false
  none-found p [] is x h = absurd (none-in x h)
  none-found p (y ∷ xs) is x h = at (p y) refl (λ less. none-found p xs less x) is
    where
      at : (t : Bool) → p y ≡ t → (find p xs ≡ None → Contains xs x → p x ≡ false) → cond t (Some y) (find p xs) ≡ None → p x ≡ false
      at true passes rest is = absurd (some-no y is)
      at false fails rest is = elim (in-or y xs x h) as (λ _. p x ≡ false) [
        | inl same ↦ subst (λ (z : X). p z ≡ false) same fails
        | inr more ↦ rest is more
      ]

  -- ---- pairs of items

  -- each item and each later one, by recursion
  abbrev pub Pairs : (X → X → Type 0) → List X → Type 0
  Pairs R [] = Unit {0}
  Pairs R (x ∷ xs) = ((y : X) → Contains xs y → R x y) × Pairs R xs

  pairs-tail : (R : X → X → Type 0) (x : X) (xs : List X) → AllPairs R (x ∷ xs) → AllPairs R xs
  pairs-tail R x xs all i j d less within = all (suc i) (suc j) d (omega arith) (omega arith)

  pub pairs-from : (R : X → X → Type 0) (xs : List X) → AllPairs R xs → Pairs R xs
  pairs-from R [] all = tt
  pairs-from R (x ∷ xs) all = (
    λ y h. subst (R x) h.2 (all 0 (suc h.0) y (omega arith) (let w = h.1 in omega arith)),
    pairs-from R xs (pairs-tail R x xs all),
  )

  pub pairs-to : (R : X → X → Type 0) (xs : List X) → Pairs R xs → AllPairs R xs
  pairs-to R [] all i j d less within = absurd (omega arith)
  pairs-to R (x ∷ xs) all zero zero d less within = absurd (omega arith)
  pairs-to R (x ∷ xs) all (suc i) zero d less within = absurd (omega arith)
  pairs-to R (x ∷ xs) all zero (suc j) d less within = all.0 (get_or xs j d) (in-at xs j d (omega arith))
    where
      in-at : (ys : List X) (k : ℕ) (d : X) → k < length ys → Contains ys (get_or ys k d)
      in-at [] k d w = absurd (omega arith)
      in-at (y ∷ ys) zero d w = in-head y ys
      in-at (y ∷ ys) (suc k) d w = in-tail y ys (get_or ys k d) (in-at ys k d (omega arith))
  pairs-to R (x ∷ xs) all (suc i) (suc j) d less within = pairs-to R xs all.1 i j d (omega arith) (omega arith)

  pub pairs-append : (R : X → X → Type 0) (xs ys : List X) → Pairs R xs → Pairs R ys → ((x y : X) → Contains xs x → Contains ys y → R x y)
      → Pairs R (xs ++ ys)
  pairs-append R [] ys first second cross = second
  pairs-append R (x ∷ xs) ys first second cross = (
    λ y h. elim (in-either xs ys y h) as (λ _. R x y) [
      | inl left ↦ first.0 y left
      | inr right ↦ cross x y (in-head x xs) right
    ],
    pairs-append R xs ys first.1 second (λ z y hz hy. cross z y (in-tail x xs z hz) hy),
  )

  pub pairs-filter : (R : X → X → Type 0) (p : X → Bool) (xs : List X) → Pairs R xs → Pairs R (filter p xs)
  pairs-filter R p [] pairs = tt
  pairs-filter R p (x ∷ xs) pairs = at (p x) (pairs-filter R p xs pairs.1)
    where
      at : (t : Bool) → Pairs R (filter p xs) → Pairs R (cond t (x ∷ filter p xs) (filter p xs))
      at true rest = (λ y h. pairs.0 y (filter-in p xs y h).0, rest)
      at false rest = rest

-- what a list of images has is the image of an item
pub in-map : {X Y : Type 0} (f : X → Y) (xs : List X) (y : Y) → Contains (map f xs) y → (x : X) × Contains xs x × (f x ≡ y)
in-map f [] y h = absurd (none-in y h)
in-map {X} f (x ∷ xs) y h = elim (in-or (f x) (map f xs) y h) as (λ _. (z : X) × Contains (x ∷ xs) z × (f z ≡ y)) [
  | inl is ↦ (x, in-head x xs, is)
  | inr more ↦ (let rest = in-map f xs y more in (rest.0, in-tail x xs rest.0 rest.1, rest.2))
]

-- and the image of each of its items
pub map-in : {X Y : Type 0} (f : X → Y) (xs : List X) (x : X) → Contains xs x → Contains (map f xs) (f x)
map-in f [] x h = absurd (none-in x h)
map-in f (z ∷ xs) x h = elim (in-or z xs x h) as (λ _. Contains (map f (z ∷ xs)) (f x)) [
  | inl is ↦ subst (Contains (map f (z ∷ xs))) (ap f is) (in-head (f z) (map f xs))
  | inr later ↦ in-tail (f z) (map f xs) (f x) (map-in f xs x later)
]
