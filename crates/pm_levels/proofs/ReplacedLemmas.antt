-- A run in the place of several that stand together.
use Rattle.std.proofs.Common.{◌≡◌, ◌≢◌, ℕ, zero, suc, ◌+◌, ◌-◌, ◌<◌, ◌≤◌, List, [], ◌∷◌, ◌++◌, length, length-append, get_or, false, ◌⊎◌, inl, inr, Contains, refl, sym, ap, subst, ◌∙◌, arith}
use Rattle.std.specs.List.{AllByRecursion}
use Rattle.std.specs.List.Sorted.{IsPermutation, IsSorted}
use Rattle.std.specs.Ordering.{is_lt}
use Rattle.std.proofs.lemmas.Bool.{cases_lt}
use Rattle.std.proofs.lemmas.Bool.Decides.{nat_tests}
use Rattle.std.proofs.lemmas.Grind.{flat_map-append}
use Rattle.std.proofs.lemmas.List.{get_or_append_left, get_or-append_right}
use Rattle.std.proofs.lemmas.List.Elements.{Contains-append_cases}
use Rattle.std.proofs.lemmas.List.Sorted.{IsPermutation-sym}
use Rattle.pm_base.proofs.Laws.{AllByRecursion-append, AllByRecursion-parts}
use Rattle.pm_values.specs.declared.file_meta.FileMeta.{FileMeta}
use Rattle.pm_levels.specs.Order.{file_cmp}
use Rattle.pm_levels.specs.Overlap.{AreDisjoint, Meet}
use Rattle.pm_levels.specs.Runs.{AreNamedApart, AreRuns, AreTwoOf, IsRun, LevelsRise, MakePlace, RunView, files_of}
use Rattle.pm_levels.proofs.OrderLemmas.{none_below, sorted-left, sorted-right, sorted-tail}
use Rattle.pm_levels.proofs.PairLemmas.{stand, two-at, two-back, two-left, two-moved, two-right}

-- ---- lists

all-at : {X : Type 0} (P : X → Type 0) (xs : List X) (x : X) → AllByRecursion P xs → Contains xs x → P x
all-at P [] x all (k, within, is) = absurd (omega (arith, within))
all-at P (y ∷ ys) x all (zero, within, is) = subst P is all.0
all-at P (y ∷ ys) x all (suc k, within, is) = all-at P ys x all.1 (k, omega (arith, within), is)

weaker : {X : Type 0} {P Q : X → Type 0} → ((x : X) → P x → Q x) → (xs : List X) → AllByRecursion P xs → AllByRecursion Q xs
weaker f [] all = tt
weaker f (x ∷ xs) all = (f x all.0, weaker f xs all.1)

-- ---- the files of runs

files-three : (xs ys zs : List RunView) → files_of (xs ++ (ys ++ zs)) ≡ files_of xs ++ (files_of ys ++ files_of zs)
files-three xs ys zs =
    flat_map-append (λ (run : RunView). run.files) xs (ys ++ zs)
    ∙ ap (λ (fs : List FileMeta). files_of xs ++ fs) (flat_map-append (λ (run : RunView). run.files) ys zs)

own-levels : (P : ℕ → Type 0) (level : ℕ) (files : List FileMeta) → P level → AllByRecursion (λ (m : FileMeta). m.level ≡ level) files
    → AllByRecursion (λ (m : FileMeta). P m.level) files
own-levels P level files is own = weaker (λ m same. subst P (sym same) is) files own

file-levels : (P : ℕ → Type 0) (runs : List RunView) → AllByRecursion IsRun runs → AllByRecursion (λ (r : RunView). P r.level) runs
    → AllByRecursion (λ (m : FileMeta). P m.level) (files_of runs)
file-levels P [] each levels = tt
file-levels P (run ∷ runs) each levels =
    AllByRecursion-append (λ (m : FileMeta). P m.level) run.files (files_of runs) (own-levels P run.level run.files levels.0 each.0.own)
    (file-levels P runs each.1 levels.1)

-- ---- order

lower-first : (a b : FileMeta) → a.level < b.level → is_lt (file_cmp b a) ≡ false
lower-first a b below = grind (arith, nat_tests)

sorted-cons : (x : FileMeta) (xs : List FileMeta) → ((y : FileMeta) → Contains xs y → is_lt (file_cmp y x) ≡ false) → IsSorted file_cmp xs
    → IsSorted file_cmp (x ∷ xs)
sorted-cons x [] after sorted k d from within = absurd (omega (arith, within))
sorted-cons x (y ∷ xs) after sorted zero d from within = after y (0, omega arith, refl)
sorted-cons x (y ∷ xs) after sorted (suc k) d from within =
    subst (λ n. is_lt (file_cmp (get_or (x ∷ y ∷ xs) n d) (get_or (y ∷ xs) k d)) ≡ false) (shifted k)
    (sorted k d (omega arith) (omega (arith, within)))
  where
    shifted : (k : ℕ) → suc (k + 1) ≡ suc k + 1
    shifted k = omega arith

sorted-both : (xs ys : List FileMeta) → ((x y : FileMeta) → Contains xs x → Contains ys y → is_lt (file_cmp y x) ≡ false) → IsSorted file_cmp xs
    → IsSorted file_cmp ys → IsSorted file_cmp (xs ++ ys)
sorted-both [] ys between one two = two
sorted-both (x ∷ xs) ys between one two =
    sorted-cons x (xs ++ ys) (λ y there. elim (Contains-append_cases xs ys y there) as (λ _. is_lt (file_cmp y x) ≡ false) [
      | inl own ↦ in-own y own
      | inr other ↦ between x y (0, omega arith, refl) other
    ]) (sorted-both xs ys (λ a b first second. between a b (suc first.0, (let w = first.1 in omega (arith, w)), first.2) second) (sorted-tail x xs one) two)
  where
    in-own : (y : FileMeta) → Contains xs y → is_lt (file_cmp y x) ≡ false
    in-own y (k, within, is) =
        subst (λ (m : FileMeta). is_lt (file_cmp m x) ≡ false) is (none_below (x ∷ xs) one 0 (suc k) y (omega arith) (omega (arith, within)))

-- files of levels below a number, and those of levels from it on
sorted-levels : (n : ℕ) (xs ys : List FileMeta) → AllByRecursion (λ (m : FileMeta). m.level < n) xs → AllByRecursion (λ (m : FileMeta). n ≤ m.level) ys
    → IsSorted file_cmp xs → IsSorted file_cmp ys → IsSorted file_cmp (xs ++ ys)
sorted-levels n xs ys low high =
    sorted-both xs ys (λ x y first second. lower-first x y (
    let less = all-at (λ (m : FileMeta). m.level < n) xs x low first in
    let more = all-at (λ (m : FileMeta). n ≤ m.level) ys y high second in
    omega (arith, less, more)
    ))

-- ---- levels

abbrev Precedes : RunView → RunView → Type 0
Precedes run other = (run.level < other.level) ⊎ ((run.level ≡ 0) × (other.level ≡ 0))

rise-left : (xs ys : List RunView) → LevelsRise (xs ++ ys) → LevelsRise xs
rise-left [] ys rise = tt
rise-left (x ∷ xs) ys rise = ((AllByRecursion-parts (Precedes x) xs ys rise.0).0, rise-left xs ys rise.1)

rise-right : (xs ys : List RunView) → LevelsRise (xs ++ ys) → LevelsRise ys
rise-right [] ys rise = rise
rise-right (x ∷ xs) ys rise = rise-right xs ys rise.1

rise-both : (n : ℕ) (xs ys : List RunView) → LevelsRise xs → LevelsRise ys → AllByRecursion (λ (r : RunView). r.level < n) xs
    → AllByRecursion (λ (r : RunView). n ≤ r.level) ys → LevelsRise (xs ++ ys)
rise-both n [] ys one two low high = two
rise-both n (x ∷ xs) ys one two low high = (
  AllByRecursion-append (Precedes x) xs ys one.0 (weaker (λ y more. inl (let less = low.0 in omega (arith, less, more))) ys high),
  rise-both n xs ys one.1 two low.1 high,
)

rise-one : (runs : List RunView) → length runs ≤ 1 → LevelsRise runs
rise-one [] few = tt
rise-one (run ∷ []) few = (tt, tt)
rise-one (run ∷ other ∷ runs) few = absurd (omega arith)

-- ---- two files of lists that are joined

abbrev TwoOfBoth : {X : Type 0} → List X → List X → X → X → Type 0
TwoOfBoth xs ys a b = AreTwoOf a b xs ⊎ AreTwoOf a b ys ⊎ (Contains xs a × Contains ys b) ⊎ (Contains ys a × Contains xs b)

module _ {X : Type 0} where
  two-of : (xs : List X) (i j : ℕ) (a b : X) → i ≢ j → i < length xs → j < length xs → get_or xs i a ≡ a → get_or xs j b ≡ b → AreTwoOf a b xs
  two-of xs i j a b apart p q left right = elim (cases_lt i j) as (λ _. AreTwoOf a b xs) [
    | inl less ↦ two-at xs i j a b less q left right
    | inr not_less ↦ two-back b a xs (two-at xs j i b a (above not_less) p right left)
  ]
    where
      above : j ≤ i → j < i
      above most = elim (cases_lt j i) as (λ _. j < i) [
        | inl less ↦ less
        | inr not_less ↦ absurd (apart (omega (arith, most, not_less)))
      ]

  two-both : (xs ys : List X) (a b : X) → AreTwoOf a b (xs ++ ys) → TwoOfBoth xs ys a b
  two-both xs ys a b two = let s = stand a b (xs ++ ys) two in at s.i s.j s.apart s.first s.second s.left s.right
    where
      -- an item of the second list, by its index there
      second-at : (k : ℕ) (d : X) → length xs ≤ k → get_or (xs ++ ys) k d ≡ d → get_or ys (k - length xs) d ≡ d
      second-at k d past is = sym (get_or-append_right xs ys (length xs) k d refl past) ∙ is

      first-at : (k : ℕ) (d : X) → k < length xs → get_or (xs ++ ys) k d ≡ d → get_or xs k d ≡ d
      first-at k d within is = sym (get_or_append_left xs ys d k within) ∙ is

      at : (i j : ℕ) → i ≢ j → i < length (xs ++ ys) → j < length (xs ++ ys) → get_or (xs ++ ys) i a ≡ a → get_or (xs ++ ys) j b ≡ b → TwoOfBoth xs ys a b
      at i j apart p q left right = elim (cases_lt i (length xs)) as (λ _. TwoOfBoth xs ys a b) [
        | inl first ↦ elim (cases_lt j (length xs)) as (λ _. TwoOfBoth xs ys a b) [
          | inl second ↦ inl (two-of xs i j a b apart first second (first-at i a first left) (first-at j b second right))
          | inr second ↦ inr (inr (inl (
            (i, first, first-at i a first left),
            (j - length xs, omega (arith, q, second, length-append xs ys), second-at j b second right),
          )))
        ]
        | inr first ↦ elim (cases_lt j (length xs)) as (λ _. TwoOfBoth xs ys a b) [
          | inl second ↦ inr (inr (inr (
            (i - length xs, omega (arith, p, first, length-append xs ys), second-at i a first left),
            (j, second, first-at j b second right),
          )))
          | inr second ↦ inr (inl (two-of ys (i - length xs) (j - length xs) a b (λ e. apart (omega (arith, e, first, second)))
              (omega (arith, p, first, length-append xs ys)) (omega (arith, q, second, length-append xs ys))
              (second-at i a first left) (second-at j b second right)))
        ]
      ]

-- what no two files of one level are, no two of lists are whose levels differ
abbrev NoTwo : (FileMeta → FileMeta → Type 0) → List FileMeta → Type 0
NoTwo R files = (a b : FileMeta) → AreTwoOf a b files → R a b → ⊥

apart-both : (R : FileMeta → FileMeta → Type 0) → ((a b : FileMeta) → R a b → a.level ≡ b.level) → (n : ℕ) (xs ys : List FileMeta)
    → AllByRecursion (λ (m : FileMeta). m.level < n) xs → AllByRecursion (λ (m : FileMeta). n ≤ m.level) ys → NoTwo R xs → NoTwo R ys → NoTwo R (xs ++ ys)
apart-both R same n xs ys low high one two a b both is = at (two-both xs ys a b both)
  where
    differ : (x y : FileMeta) → Contains xs x → Contains ys y → x.level ≡ y.level → ⊥
    differ x y first second e =
        let less = all-at (λ (m : FileMeta). m.level < n) xs x low first in
        let more = all-at (λ (m : FileMeta). n ≤ m.level) ys y high second in
        omega (arith, less, more, e)

    at : TwoOfBoth xs ys a b → ⊥
    at (inl in_xs) = one a b in_xs is
    at (inr (inl in_ys)) = two a b in_ys is
    at (inr (inr (inl (first, second)))) = differ a b first second (same a b is)
    at (inr (inr (inr (first, second)))) = differ b a second first (sym (same a b is))

-- ---- the run in its place

module _ (files after : List FileMeta) (later taken made older : List RunView) (out : ℕ) (place : MakePlace files later taken made older out)
    (moved : IsPermutation after (files_of (later ++ (made ++ older)))) where
  parts : AllByRecursion IsRun later × AllByRecursion IsRun (taken ++ older)
  parts = AllByRecursion-parts IsRun later (taken ++ older) place.were.each

  each-older : AllByRecursion IsRun older
  each-older = (AllByRecursion-parts IsRun taken older parts.1).1

  each-made : AllByRecursion IsRun made
  each-made = weaker (λ run is. is.0) made place.are_made.each

  later-low : AllByRecursion (λ (m : FileMeta). m.level < out) (files_of later)
  later-low = file-levels (λ k. k < out) later parts.0 place.below

  made-low : AllByRecursion (λ (m : FileMeta). m.level < suc out) (files_of made)
  made-low = file-levels (λ k. k < suc out) made each-made (weaker (λ run is. (let same = is.1 in omega (arith, same))) made place.are_made.each)

  older-high : AllByRecursion (λ (m : FileMeta). suc out ≤ m.level) (files_of older)
  older-high = file-levels (λ k. suc out ≤ k) older each-older (weaker (λ run above. omega (arith, above)) older place.above)

  rest-runs : AllByRecursion (λ (r : RunView). out ≤ r.level) (made ++ older)
  rest-runs =
      AllByRecursion-append (λ (r : RunView). out ≤ r.level) made older
      (weaker (λ run is. (let same = is.1 in omega (arith, same))) made place.are_made.each) (weaker (λ run above. omega (arith, above)) older place.above)

  rest-high : AllByRecursion (λ (m : FileMeta). out ≤ m.level) (files_of made ++ files_of older)
  rest-high =
      AllByRecursion-append (λ (m : FileMeta). out ≤ m.level) (files_of made) (files_of older)
      (file-levels (λ k. out ≤ k) made each-made (weaker (λ run is. (let same = is.1 in omega (arith, same))) made place.are_made.each))
      (weaker (λ m above. omega (arith, above)) (files_of older) older-high)

  old-order : IsSorted file_cmp (files_of later ++ (files_of taken ++ files_of older))
  old-order = subst (IsSorted file_cmp) (files-three later taken older) place.were.order

  older-order : IsSorted file_cmp (files_of older)
  older-order = sorted-right (files_of taken) (files_of older) (sorted-right (files_of later) (files_of taken ++ files_of older) old-order)

  rise-rest : LevelsRise (made ++ older)
  rise-rest =
      rise-both (suc out) made older (rise-one made place.are_made.one) (rise-right taken older (rise-right later (taken ++ older) place.were.levels))
      (weaker (λ run is. (let same = is.1 in omega (arith, same))) made place.are_made.each) (weaker (λ run above. omega (arith, above)) older place.above)

  pub replaced-runs : AreRuns after (later ++ (made ++ older))
  replaced-runs = record {
    whole = moved;
    order = subst (IsSorted file_cmp) (sym (files-three later made older))
        (sorted-levels out (files_of later) (files_of made ++ files_of older) later-low rest-high
        (sorted-left (files_of later) (files_of taken ++ files_of older) old-order)
        (sorted-levels (suc out) (files_of made) (files_of older) made-low older-high place.are_made.order older-order));
    each = AllByRecursion-append IsRun later (made ++ older) parts.0 (AllByRecursion-append IsRun made older each-made each-older);
    levels = rise-both out later (made ++ older) (rise-left later (taken ++ older) place.were.levels) rise-rest place.below rest-runs;
  }

  old-none : (R : FileMeta → FileMeta → Type 0) → NoTwo R files → NoTwo R (files_of later ++ (files_of taken ++ files_of older))
  old-none R none a b two =
      none a b (two-moved a b (files_of (later ++ (taken ++ older))) files (IsPermutation-sym files (files_of (later ++ (taken ++ older))) place.were.whole)
      (subst (AreTwoOf a b) (sym (files-three later taken older)) two))

  new-none : (R : FileMeta → FileMeta → Type 0) → ((a b : FileMeta) → R a b → a.level ≡ b.level) → NoTwo R files → NoTwo R (files_of made) → NoTwo R after
  new-none R same old new a b two is =
      apart-both R same out (files_of later) (files_of made ++ files_of older) later-low rest-high
      (λ a b two. old-none R old a b (two-left a b (files_of later) (files_of taken ++ files_of older) two))
      (apart-both R same (suc out) (files_of made) (files_of older) made-low older-high new
      (λ a b two. old-none R old a b (two-right a b (files_of later) (files_of taken ++ files_of older) (two-right a b (files_of taken) (files_of older) two))))
      a b (subst (AreTwoOf a b) (files-three later made older) (two-moved a b after (files_of (later ++ (made ++ older))) moved two)) is

  pub replaced-disjoint : AreDisjoint files → AreDisjoint (files_of made) → AreDisjoint after
  replaced-disjoint old new = new-none Meet (λ a b meet. meet.level) old new

  pub replaced-named : AreNamedApart files → AreNamedApart (files_of made) → AreNamedApart after
  replaced-named old new a b two level name =
      new-none (λ (a b : FileMeta). (a.level ≡ b.level) × (a.name ≡ b.name)) (λ a b is. is.0) (λ a b two is. old a b two is.0 is.1)
      (λ a b two is. new a b two is.0 is.1) a b two (level, name)
