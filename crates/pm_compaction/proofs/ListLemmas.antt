-- Items of lists that pass a test, and of lists that are joined.
use Rattle.std.proofs.Common.{◌≡◌, Bool, true, false, true≢false, ◌||◌, List, [], ◌∷◌, inl, inr, Contains, refl, sym, ap, subst, ◌∙◌}
use Rattle.std.specs.List.{flat_map, list_any}
use Rattle.std.proofs.lemmas.List.Elements.{Contains-append_cases, Contains-append_left, Contains-append_right}
use Rattle.pm_paths.proofs.ListLemmas.{cases, here, more, nowhere}

or-true : (a b : Bool) → a ≡ true → (a || b) ≡ true
or-true true b is = refl
or-true false b is = absurd (true≢false (sym is))

or-later : (a b : Bool) → b ≡ true → (a || b) ≡ true
or-later true b is = refl
or-later false b is = is

pub any-of : {X : Type 0} (p : X → Bool) (xs : List X) (x : X) → Contains xs x → p x ≡ true → list_any p xs ≡ true
any-of p [] x h is = absurd (nowhere x h)
any-of p (y ∷ xs) x h is = elim (cases y xs x h) as (λ _. list_any p (y ∷ xs) ≡ true) [
  | inl same ↦ or-true (p y) (list_any p xs) (ap p same ∙ is)
  | inr later ↦ or-later (p y) (list_any p xs) (any-of p xs x later is)
]

-- ---- lists that are joined

module _ {X Y : Type 0} where
  -- what lists that are joined have is an item of one of them
  pub in-flat : (f : X → List Y) (xs : List X) (y : Y) → Contains (flat_map f xs) y → (x : X) × Contains xs x × Contains (f x) y
  in-flat f [] y h = absurd (nowhere y h)
  in-flat f (x ∷ xs) y h = elim (Contains-append_cases (f x) (flat_map f xs) y h) as (λ _. (z : X) × Contains (x ∷ xs) z × Contains (f z) y) [
    | inl own ↦ (x, here x xs, own)
    | inr later ↦ (let rest = in-flat f xs y later in (rest.0, more x xs rest.0 rest.1, rest.2))
  ]

  pub flat-in : (f : X → List Y) (xs : List X) (x : X) (y : Y) → Contains xs x → Contains (f x) y → Contains (flat_map f xs) y
  flat-in f [] x y h own = absurd (nowhere x h)
  flat-in f (z ∷ xs) x y h own = elim (cases z xs x h) as (λ _. Contains (flat_map f (z ∷ xs)) y) [
    | inl is ↦ Contains-append_left (f z) (flat_map f xs) y (subst (λ (w : X). Contains (f w) y) (sym is) own)
    | inr later ↦ Contains-append_right (f z) (flat_map f xs) y (flat-in f xs x y later own)
  ]
