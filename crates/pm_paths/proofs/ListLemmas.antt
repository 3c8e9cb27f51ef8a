-- What a list contains that has one item more.
use Rattle.std.proofs.Common.{◌≡◌, ◌⊎◌, inl, inr, List, [], ◌∷◌, Contains, arith}
use Rattle.std.proofs.lemmas.List.Elements.{Contains-append_left, Contains-append_right, Contains-append_cases, Contains-push, Contains-push_cases}

pub here : {X : Type 0} (x : X) (xs : List X) → Contains (x ∷ xs) x
here x xs = Contains-append_left (x ∷ []) xs x (Contains-push [] x)

pub more : {X : Type 0} (x : X) (xs : List X) (q : X) → Contains xs q → Contains (x ∷ xs) q
more x xs q c = Contains-append_right (x ∷ []) xs q c

pub nowhere : {X : Type 0} (q : X) → ¬ Contains [] q
nowhere q c = let below = c.1 in omega (arith, below)

pub cases : {X : Type 0} (x : X) (xs : List X) (q : X) → Contains (x ∷ xs) q → (x ≡ q) ⊎ Contains xs q
cases {X} x xs q c = elim (Contains-append_cases (x ∷ []) xs q c) as (λ _. (x ≡ q) ⊎ Contains xs q) [
  | inl first ↦ elim (Contains-push_cases [] x q first) as (λ _. (x ≡ q) ⊎ Contains xs q) [
    | inl none ↦ absurd (nowhere q none)
    | inr same ↦ inl same
  ]
  | inr later ↦ inr later
]
