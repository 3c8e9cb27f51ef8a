-- A floor's path leads to its name, so that a listing has it.
use Rattle.std.proofs.Common.{◌≡◌, ℕ, suc, ◌<◌, ◌≤◌, ◌+◌, List, [], ◌∷◌, Bool, true, false, cond, not, take, ◌==◌, Contains, Some, IsSome, refl, ap, ◌∙◌, eqb-true, arith}
use Rattle.std.specs.Char.{digit_value}
use Rattle.std.specs.FinMap as map
use Rattle.std.specs.Fmt.{decimal}
use Rattle.std.specs.List.{AllByRecursion, before_first, position_or_len}
use Rattle.std.specs.Str.Parse.{AllDigits}
use Rattle.std.proofs.lemmas.Fmt.{decimal_is_IsNumeral}
use Rattle.std.proofs.lemmas.Str.Parse.{digit_from_value}
use Rattle.pm_store.specs.Files.{Files, IsListing, name_in, slash, some_name}
use Rattle.pm_snapshot.specs.Names.{floor_name, greatest}
use Rattle.pm_model_folder.specs.Paths.{floor_folder, floor_path}

-- what stands before a slash in a number
abbrev before_slash : List ℕ → List ℕ
before_slash bytes = before_first (λ b. b == slash) bytes

before-cons : (b : ℕ) (bytes : List ℕ) → (b == slash) ≡ false → before_slash (b ∷ bytes) ≡ b ∷ before_slash bytes
before-cons b bytes other =
    let n : ℕ = position_or_len (λ b. b == slash) bytes in
    let more : 1 + n ≡ suc n = omega arith in
    ap (λ t. take (cond (not t) (1 + n) 0) (b ∷ bytes)) other ∙ ap (λ k. take k (b ∷ bytes)) more

before-all : (bytes : List ℕ) → AllByRecursion (λ b. (b == slash) ≡ false) bytes → before_slash bytes ≡ bytes
before-all [] all = refl
before-all (b ∷ bytes) all = before-cons b bytes all.0 ∙ ap (λ rest. b ∷ rest) (before-all bytes all.1)

digit-other : (b : ℕ) → digit_value b < 10 → (b == slash) ≡ false
digit-other b is = by_test (b == slash) refl
  where
    by_test : (t : Bool) → (b == slash) ≡ t → (b == slash) ≡ false
    by_test true same = absurd (let digit = digit_from_value b is in let is_slash = eqb-true b slash same in omega (arith, digit, is_slash))
    by_test false other = other

digits-other : (bytes : List ℕ) → AllDigits 10 bytes → AllByRecursion (λ b. (b == slash) ≡ false) bytes
digits-other [] all = tt
digits-other (b ∷ bytes) all = (digit-other b all.0, digits-other bytes all.1)

-- the floor of a number leads to its name
floor-leads : (n : ℕ) → n ≤ greatest → name_in floor_folder (floor_path n) ≡ Some (floor_name n)
floor-leads n within = ap some_name (before-all (floor_name n)
    (refl, (refl, (refl, (refl, (refl, (refl, digits-other (decimal n) (decimal_is_IsNumeral n (omega (arith, within))).0.1)))))))

-- a floor that is there was listed
pub floor-listed : (f : Files) (names : List (List ℕ)) (n : ℕ) → IsListing floor_folder names f → n ≤ greatest → IsSome (map.get f (floor_path n))
    → Contains names (floor_name n)
floor-listed f names n listing within there = (listing.exact (floor_name n)).1 (floor_path n, there, floor-leads n within)
