-- The run that was made stands in the place of those that were taken.
use Rattle.std.proofs.Common.{◌≡◌, ◌≢◌, ◌⊎◌, inl, inr, ℕ, zero, suc, ◌+◌, ◌≤◌, ◌==◌, true, false, List, [], ◌∷◌, length, get_or, map, Contains, refl, sym, ap, subst, ◌∙◌, append-nil, arith}
use Rattle.std.specs.List.{AllByRecursion}
use Rattle.std.specs.List.Sorted.{IsSorted}
use Rattle.std.specs.Ordering.{is_le, is_lt, nat_cmp, ordering_reverse}
use Rattle.std.specs.declared.cmp.Ordering.{Ordering}
use Rattle.std.specs.declared.cmp.Ordering.TheVariants.{Less, Equal, Greater}
use Rattle.std.proofs.lemmas.Bool.Decides.{nat_tests}
use Rattle.std.proofs.lemmas.List.Sorted.{length_permutation}
use Rattle.pm_values.specs.Order.{Values, key_cmp, key_total}
use Rattle.pm_values.specs.declared.file_meta.FileMeta.{FileMeta}
use Rattle.pm_engine.specs.Covers.{Run}
use Rattle.pm_levels.specs.Order.{file_cmp}
use Rattle.pm_levels.specs.Overlap.{AreDisjoint, IsUpTo}
use Rattle.pm_levels.specs.Runs.{AreMadeAt, AreNamedApart, AreTwoOf, IsRun, RunView, files_of}
use Rattle.pm_run.specs.declared.run.RunFile.{RunFile}
use Rattle.pm_model_folder.specs.Runs.{view_of}
use Rattle.pm_compact.specs.Made.{IsMadeAt, made_run, metas_of}
use Rattle.pm_paths.proofs.ListLemmas.{cases, nowhere}
use Rattle.pm_made.proofs.ListLemmas.{Pairs}
use Rattle.pm_compaction.proofs.MadeLemmas.{ComesBefore}

-- ---- two files of a run

-- two of a list with one more are that one and another, or two others
abbrev pub TwoOfMore : Type 0
TwoOfMore = (file : FileMeta) (files : List FileMeta) (a b : FileMeta) → AreTwoOf a b (file ∷ files)
    → ((a ≡ file) × Contains files b) ⊎ ((b ≡ file) × Contains files a) ⊎ AreTwoOf a b files

two-none : (a b : FileMeta) → AreTwoOf a b [] → ⊥
two-none a b two = let long = length_permutation [] (a ∷ b ∷ two.0) two.1 in omega (arith, long)

pub two-pairs : TwoOfMore → (R : FileMeta → FileMeta → Type 0) (files : List FileMeta) (a b : FileMeta) → Pairs R files → AreTwoOf a b files → R a b ⊎ R b a
two-pairs more R [] a b pairs two = absurd (two-none a b two)
two-pairs more R (file ∷ files) a b pairs two = elim (more file files a b two) as (λ _. R a b ⊎ R b a) [
  | inl first ↦ inl (subst (λ (x : FileMeta). R x b) (sym first.0) (pairs.0 b first.1))
  | inr rest ↦ elim rest as (λ _. R a b ⊎ R b a) [
    | inl second ↦ inr (subst (λ (x : FileMeta). R x a) (sym second.0) (pairs.0 a second.1))
    | inr others ↦ two-pairs more R files a b pairs.1 others
  ]
]

-- ---- keys

-- a key isn't up to one that is up to what is below it
below-not : (a b c : Values) → key_cmp b c ≡ Less → IsUpTo a b → IsUpTo c a → ⊥
below-not a b c less first second = at (key_cmp a b) refl first
  where
    flip : (o : Ordering) → key_cmp c a ≡ ordering_reverse o → o ≡ Less → ⊥
    flip o is same = (let greater : key_cmp c a ≡ Greater = is ∙ ap ordering_reverse same in
        let no : false ≡ true = sym (ap is_le greater) ∙ second in cc)

    at : (o : Ordering) → key_cmp a b ≡ o → is_le (key_cmp a b) ≡ true → ⊥
    at Less is up = flip (key_cmp a c) (key_total.antisymm c a) (key_total.trans a b c is less)
    at Equal is up = flip (key_cmp a c) (key_total.antisymm c a) (key_total.congr a b c is ∙ less)
    at Greater is up = let no : false ≡ true = sym (ap is_le is) ∙ up in cc

module _ (more : TwoOfMore) (files : List FileMeta) (pairs : Pairs ComesBefore files) where
  pub made-disjoint : AreDisjoint files
  made-disjoint a b two meet = elim (two-pairs more ComesBefore files a b pairs two) as (λ _. ⊥) [
    | inl first ↦ below-not meet.key a.max_key b.min_key first.below meet.first.1 meet.second.0
    | inr second ↦ below-not meet.key b.max_key a.min_key second.below meet.second.1 meet.first.0
  ]

  pub made-named : AreNamedApart files
  made-named a b two level = elim (two-pairs more ComesBefore files a b pairs two) as (λ _. a.name ≢ b.name) [
    | inl first ↦ first.apart
    | inr second ↦ (λ same. second.apart (sym same))
  ]

-- ---- order

level-tie : (n : ℕ) → nat_cmp n n ≡ Equal
level-tie n = grind (arith, nat_tests)

above-zero : (n : ℕ) → 1 ≤ n → (n == 0) ≡ false
above-zero n some = grind (arith, nat_tests)

not-before : (a b : FileMeta) (out : ℕ) → 1 ≤ out → a.level ≡ out → b.level ≡ out → key_cmp a.min_key b.min_key ≡ Less → is_lt (file_cmp b a) ≡ false
not-before a b out some first second less =
    let tie : nat_cmp b.level a.level ≡ Equal = ap (λ (n : ℕ). nat_cmp n a.level) second ∙ ap (nat_cmp out) first ∙ level-tie out in
    let high : (b.level == 0) ≡ false = ap (λ (n : ℕ). n == 0) second ∙ above-zero out some in
    let over : key_cmp b.min_key a.min_key ≡ Greater = key_total.antisymm b.min_key a.min_key ∙ ap ordering_reverse less in
    rw (tie, high, over) refl

sorted-more : (x : FileMeta) (xs : List FileMeta) → ((y : FileMeta) → Contains xs y → is_lt (file_cmp y x) ≡ false) → IsSorted file_cmp xs → IsSorted file_cmp (x ∷ xs)
sorted-more x [] after sorted k d from within = absurd (omega (arith, within))
sorted-more x (y ∷ xs) after sorted zero d from within = after y (0, omega arith, refl)
sorted-more x (y ∷ xs) after sorted (suc k) d from within =
    subst (λ n. is_lt (file_cmp (get_or (x ∷ y ∷ xs) n d) (get_or (y ∷ xs) k d)) ≡ false) (shifted k)
    (sorted k d (omega arith) (omega (arith, within)))
  where
    shifted : (k : ℕ) → suc (k + 1) ≡ suc k + 1
    shifted k = omega arith

metas-sorted : (out : ℕ) (files : List RunFile) → 1 ≤ out → AllByRecursion (IsMadeAt out) files → Pairs ComesBefore (metas_of files) → IsSorted file_cmp (metas_of files)
metas-sorted out [] some made pairs = λ k d from within. absurd (omega (arith, within))
metas-sorted out (f ∷ files) some made pairs =
    sorted-more f.meta (metas_of files) (λ m h. after m h) (metas-sorted out files some made.1 pairs.1)
  where
    level-of : (files : List RunFile) (m : FileMeta) → AllByRecursion (IsMadeAt out) files → Contains (metas_of files) m → m.level ≡ out
    level-of [] m all h = absurd (nowhere m h)
    level-of (x ∷ xs) m all h = elim (cases x.meta (metas_of xs) m h) as (λ _. m.level ≡ out) [
      | inl is ↦ subst (λ (m : FileMeta). m.level ≡ out) is all.0.level_is
      | inr later ↦ level-of xs m all.1 later
    ]

    after : (m : FileMeta) → Contains (metas_of files) m → is_lt (file_cmp m f.meta) ≡ false
    after m h = not-before f.meta m out some made.0.level_is (level-of files m made.1 h) (pairs.0 m h).lower

levels-own : (out : ℕ) (files : List RunFile) → AllByRecursion (IsMadeAt out) files → AllByRecursion (λ (m : FileMeta). m.level ≡ out) (metas_of files)
levels-own out [] made = tt
levels-own out (f ∷ files) made = (made.0.level_is, levels-own out files made.1)

-- the files of the run that they are
pub made-files : (out newest : ℕ) (run : Run) (files : List RunFile) → files_of (map view_of (made_run out newest run files)) ≡ metas_of files
made-files out newest run [] = refl
made-files out newest run (f ∷ files) = append-nil (metas_of (f ∷ files))

pub made-at : (out newest : ℕ) (run : Run) (files : List RunFile) → 1 ≤ out → AllByRecursion (IsMadeAt out) files → Pairs ComesBefore (metas_of files)
    → AreMadeAt out (map view_of (made_run out newest run files))
made-at out newest run files some made pairs = record {
  one = one files;
  each = each files made;
  order = subst (IsSorted file_cmp) (sym (made-files out newest run files)) (metas-sorted out files some made pairs);
}
  where
    one : (files : List RunFile) → length (map view_of (made_run out newest run files)) ≤ 1
    one [] = omega arith
    one (f ∷ files) = omega arith

    each : (files : List RunFile) → AllByRecursion (IsMadeAt out) files
        → AllByRecursion (λ (run : RunView). IsRun run × (run.level ≡ out)) (map view_of (made_run out newest run files))
    each [] made = tt
    each (f ∷ files) made = (
      (record { own = levels-own out (f ∷ files) made; some = omega arith; alone = λ none. absurd (omega (arith, some, none)) }, refl),
      tt,
    )
