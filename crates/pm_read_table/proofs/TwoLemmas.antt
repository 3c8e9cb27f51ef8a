-- Two items of a list.
use Rattle.std.proofs.Common.{◌≢◌, zero, suc, List, ◌∷◌, remove, Contains, IsPermutation, refl, sym, arith}
use Rattle.std.proofs.lemmas.List.Sorted.{Contains-permutation, IsPermutation-cons, IsPermutation-remove, IsPermutation-sym, IsPermutation-trans}
use Rattle.pm_levels.specs.Runs.{AreTwoOf}

-- of two items of a list that differ, both stand in it
module _ {X : Type 0} where
  left_in : (x y : X) (xs : List X) → x ≢ y → Contains (x ∷ xs) y → Contains xs y
  left_in x y xs other (zero, within, is) = absurd (other is)
  left_in x y xs other (suc k, within, is) = (k, omega (arith, within), is)

  pub two_in : (x y : X) (xs : List X) → Contains xs x → Contains xs y → x ≢ y → AreTwoOf x y xs
  two_in x y xs (i, within, at) there other =
      let zs = remove xs i in
      let split : IsPermutation xs (x ∷ zs) = IsPermutation-remove xs i x within (sym at) in
      let later = left_in x y zs other (Contains-permutation xs (x ∷ zs) y split there) in
      let rest = IsPermutation-remove zs later.0 y later.1 (sym later.2) in
      (remove zs later.0, IsPermutation-trans xs (x ∷ zs) (x ∷ y ∷ remove zs later.0) split (IsPermutation-cons x zs (y ∷ remove zs later.0) rest))

  pub first_in : (x y : X) (xs : List X) → AreTwoOf x y xs → Contains xs x × Contains xs y
  first_in x y xs (rest, same) =
      let back = IsPermutation-sym xs (x ∷ y ∷ rest) same in
      (Contains-permutation (x ∷ y ∷ rest) xs x back (0, omega arith, refl), Contains-permutation (x ∷ y ∷ rest) xs y back (1, omega arith, refl))
