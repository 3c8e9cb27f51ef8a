-- What holds of each item of a list and the items before it.
use Rattle.std.proofs.Common.{◌≡◌, ℕ, zero, suc, List, [], ◌∷◌, ◌++◌, None, Some, is_some, length, take, refl, ap, sym, subst, true≢false}
use Rattle.std.specs.Prelude.{slice_get}

-- each item has the relation to those before it
abbrev pub Each : {X : Type 0} → (List X → X → Type 0) → List X → Type 0
Each {X} P xs = (i : ℕ) (x : X) → slice_get xs i ≡ Some x → P (take i xs) x

nothing : {A : Type 0} (x : A) → None ≡ Some x → ⊥
nothing x e = true≢false (sym (ap is_some e))

pub Each-nil : {X : Type 0} (P : List X → X → Type 0) → Each P []
Each-nil P i x is = absurd (nothing x is)

pub Each-append : {X : Type 0} (P : List X → X → Type 0) (xs ys : List X) → Each P xs → Each (λ zs. P (xs ++ zs)) ys → Each P (xs ++ ys)
Each-append P [] ys first later i x is = later i x is
Each-append P (z ∷ xs) ys first later zero x is = first zero x is
Each-append P (z ∷ xs) ys first later (suc i) x is =
    Each-append (λ zs. P (z ∷ zs)) xs ys (λ j y at. first (suc j) y at) later i x is

-- of joined lists, the first has it
pub Each-first : {X : Type 0} (P : List X → X → Type 0) (xs ys : List X) → Each P (xs ++ ys) → Each P xs
Each-first P [] ys all i x is = Each-nil P i x is
Each-first P (z ∷ xs) ys all zero x is = all zero x is
Each-first P (z ∷ xs) ys all (suc i) x is = Each-first (λ zs. P (z ∷ zs)) xs ys (λ j y at. all (suc j) y at) i x is

-- and the second, after the first
pub Each-later : {X : Type 0} (P : List X → X → Type 0) (xs ys : List X) → Each P (xs ++ ys) → Each (λ zs. P (xs ++ zs)) ys
Each-later P [] ys all = all
Each-later P (z ∷ xs) ys all = Each-later (λ zs. P (z ∷ zs)) xs ys (λ j y at. all (suc j) y at)

-- one item has it where it has the relation to nothing
pub Each-one : {X : Type 0} (P : List X → X → Type 0) (x : X) → P [] x → Each P (x ∷ [])
Each-one P x holds zero y is = subst (P []) (some_is x y is) holds
  where
    some_is : {A : Type 0} (a b : A) → Some a ≡ Some b → a ≡ b
    some_is a b e = cc
Each-one P x holds (suc i) y is = absurd (nothing y is)

-- the item after some
pub slice_get-append : {X : Type 0} (xs : List X) (x : X) (ys : List X) → slice_get (xs ++ x ∷ ys) (length xs) ≡ Some x
slice_get-append [] x ys = refl
slice_get-append (z ∷ xs) x ys = slice_get-append xs x ys

-- the items before it
pub take-append : {X : Type 0} (xs ys : List X) → take (length xs) (xs ++ ys) ≡ xs
take-append [] ys = refl
take-append (z ∷ xs) ys = ap (λ zs. z ∷ zs) (take-append xs ys)
