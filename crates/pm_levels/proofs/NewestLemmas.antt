-- A file at level 0 whose numbers are above all others' is the newest run.
use Rattle.std.proofs.Common.{◌≡◌, ◌≢◌, ℕ, zero, suc, ◌+◌, ◌<◌, ◌≤◌, List, [], ◌∷◌, length, get_or, false, ◌⊎◌, inl, inr, Contains, refl, sym, ap, subst, ◌∙◌, arith}
use Rattle.std.specs.List.{AllByRecursion}
use Rattle.std.specs.List.Sorted.{IsSorted}
use Rattle.std.specs.Ordering.{is_lt}
use Rattle.std.proofs.lemmas.Bool.{cases_lt}
use Rattle.std.proofs.lemmas.Bool.Decides.{nat_tests}
use Rattle.std.proofs.lemmas.List.Sorted.{Contains-permutation, IsPermutation-cons, IsPermutation-sym}
use Rattle.pm_values.specs.declared.file_meta.FileMeta.{FileMeta}
use Rattle.pm_levels.specs.Order.{file_cmp}
use Rattle.pm_levels.specs.Overlap.{AreDisjoint}
use Rattle.pm_levels.specs.Runs.{AreNamedApart, AreRuns, AreTwoOf, IsNewerThan, IsRun, RunView, files_of, lone}
use Rattle.pm_levels.proofs.PairLemmas.{stand, two-at, two-back}

-- such a file comes before the others
not_before : (file other : FileMeta) → file.level ≡ 0 → (other.level ≡ 0 → other.max_seq < file.max_seq) → is_lt (file_cmp other file) ≡ false
not_before file other low below = at other.level refl
  where
    at : (level : ℕ) → other.level ≡ level → is_lt (file_cmp other file) ≡ false
    at zero is = let above = below is in grind (arith, nat_tests)
    at (suc level) is = grind (arith, nat_tests)

in-front : (file : FileMeta) (files : List FileMeta) → file.level ≡ 0 → ((other : FileMeta) → Contains files other → other.level ≡ 0 → other.max_seq < file.max_seq)
    → IsSorted file_cmp files → IsSorted file_cmp (file ∷ files)
in-front file [] low newer sorted k d from within = absurd (omega (arith, within))
in-front file (other ∷ files) low newer sorted zero d from within = not_before file other low (newer other (0, omega arith, refl))
in-front file (other ∷ files) low newer sorted (suc k) d from within =
    subst (λ n. is_lt (file_cmp (get_or (file ∷ other ∷ files) n d) (get_or (other ∷ files) k d)) ≡ false) (shifted k)
    (sorted k d (omega arith) (omega (arith, within)))
  where
    shifted : (k : ℕ) → suc (k + 1) ≡ suc k + 1
    shifted k = omega arith

run-lone : (file : FileMeta) → IsRun (lone file)
run-lone file = record { own = (refl, tt); some = omega arith; alone = λ e. refl }

before-all : (file : FileMeta) (runs : List RunView) → file.level ≡ 0
    → AllByRecursion (λ (other : RunView). (file.level < other.level) ⊎ ((file.level ≡ 0) × (other.level ≡ 0))) runs
before-all file [] low = tt
before-all file (run ∷ runs) low = (at run.level refl, before-all file runs low)
  where
    at : (level : ℕ) → run.level ≡ level → (file.level < run.level) ⊎ ((file.level ≡ 0) × (run.level ≡ 0))
    at zero is = inr (low, is)
    at (suc level) is = inl (omega (arith, low, is))

pub newest-run : (file : FileMeta) (files : List FileMeta) (runs : List RunView) → IsNewerThan file files → AreRuns files runs
    → AreRuns (file ∷ files) (lone file ∷ runs)
newest-run file files runs newer are = record {
  whole = IsPermutation-cons file files (files_of runs) are.whole;
  order = in-front file (files_of runs) newer.level
      (λ other there. newer.above other (Contains-permutation (files_of runs) files other (IsPermutation-sym files (files_of runs) are.whole) there))
      are.order;
  each = (run-lone file, are.each);
  levels = (before-all file runs newer.level, are.levels);
}

-- ---- two files of one more

-- two items of a list with one more in front: that one and another, or two others
abbrev TwoOfMore : {X : Type 0} → X → List X → X → X → Type 0
TwoOfMore x xs a b = ((a ≡ x) × Contains xs b) ⊎ ((b ≡ x) × Contains xs a) ⊎ AreTwoOf a b xs

module _ {X : Type 0} where
  at-two : (x : X) (xs : List X) (a b : X) (i j : ℕ) → i ≢ j → i < length (x ∷ xs) → j < length (x ∷ xs) → get_or (x ∷ xs) i a ≡ a
      → get_or (x ∷ xs) j b ≡ b → TwoOfMore x xs a b
  at-two x xs a b zero zero apart p q left right = absurd (apart refl)
  at-two x xs a b zero (suc j) apart p q left right = inl (sym left, (j, omega (arith, q), right))
  at-two x xs a b (suc i) zero apart p q left right = inr (inl (sym right, (i, omega (arith, p), left)))
  at-two x xs a b (suc i) (suc j) apart p q left right = inr (inr (elim (cases_lt i j) as (λ _. AreTwoOf a b xs) [
    | inl less ↦ two-at xs i j a b less (omega (arith, q)) left right
    | inr not_less ↦ two-back b a xs (two-at xs j i b a (above not_less) (omega (arith, p)) right left)
  ]))
    where
      above : j ≤ i → j < i
      above most = elim (cases_lt j i) as (λ _. j < i) [
        | inl less ↦ less
        | inr not_less ↦ absurd (let same : suc i ≡ suc j = omega (arith, most, not_less) in apart same)
      ]

  pub two-more : (x : X) (xs : List X) (a b : X) → AreTwoOf a b (x ∷ xs) → TwoOfMore x xs a b
  two-more x xs a b two = let s = stand a b (x ∷ xs) two in at-two x xs a b s.i s.j s.apart s.first s.second s.left s.right

pub newest-named : (file : FileMeta) (files : List FileMeta) → ((other : FileMeta) → Contains files other → other.level ≡ file.level → other.name ≢ file.name)
    → AreNamedApart files → AreNamedApart (file ∷ files)
newest-named file files new apart a b two level same = at (two-more file files a b two)
  where
    at : TwoOfMore file files a b → ⊥
    at (inl (is, there)) = new b there (sym level ∙ ap (λ (m : FileMeta). m.level) is) (sym same ∙ ap (λ (m : FileMeta). m.name) is)
    at (inr (inl (is, there))) = new a there (level ∙ ap (λ (m : FileMeta). m.level) is) (same ∙ ap (λ (m : FileMeta). m.name) is)
    at (inr (inr more)) = apart a b more level same

pub newest-disjoint : (file : FileMeta) (files : List FileMeta) → file.level ≡ 0 → AreDisjoint files → AreDisjoint (file ∷ files)
newest-disjoint file files low disjoint a b two meet = at (two-more file files a b two)
  where
    at : TwoOfMore file files a b → ⊥
    at (inl (is, there)) = let above = meet.above in let is_low = ap (λ (m : FileMeta). m.level) is in omega (arith, above, is_low, low)
    at (inr (inl (is, there))) = let above = meet.above in let level = meet.level in let is_low = ap (λ (m : FileMeta). m.level) is in omega (arith, above, level, is_low, low)
    at (inr (inr more)) = disjoint a b more meet
