-- Orders, and that the order of files is one.
use Rattle.std.proofs.Common.{◌≡◌, ℕ, suc, ◌+◌, ◌<◌, ◌≤◌, List, [], ◌∷◌, ◌++◌, true, false, true≢false, cond, ◌==◌, ◌⊎◌, inl, inr, refl, sym, ap, subst, ◌∙◌, arith, length, length-append, get_or}
use Rattle.std.specs.List.Sorted.{IsSorted}
use Rattle.std.specs.Ordering.{nat_cmp, is_lt, is_le, is_gt, ordering_then, ordering_reverse, on, then_cmp, flip_args}
use Rattle.std.specs.declared.cmp.Ordering.{Ordering}
use Rattle.std.specs.declared.cmp.Ordering.TheVariants.{Less, Equal, Greater}
use Rattle.std.specs.Cmp.{IsTotalOrder, tied_itself, nat_cmp_total, on_total, then_total, back_total}
use Rattle.std.specs.Cmp.Lexicographic.{slice_cmp, nat_list_cmp_total}
use Rattle.std.specs.FinMap.{nat_cmp-IsAntisymmetric, slice_cmp-IsAntisymmetric}
use Rattle.std.proofs.lemmas.Bool.Decides.{nat_tests}
use Rattle.std.proofs.lemmas.Cmp.{ranked, by_ranked, upto}
use Rattle.std.proofs.lemmas.List.{get_or_append_left}
use Rattle.std.proofs.lemmas.List.Sorted.{ranks_by, sorted_far}
use Rattle.pm_values.specs.Order.{Values, key_cmp, key_total}
use Rattle.pm_values.specs.declared.file_meta.FileMeta.{FileMeta}
use Rattle.pm_levels.specs.Order.{file_cmp, within_level}
use Rattle.pm_levels.specs.Overlap.{IsUpTo}

-- ---- any total order

gt-le : (o : Ordering) → is_gt o ≡ false → is_le o ≡ true
gt-le Less e = refl
gt-le Equal e = refl
gt-le Greater e = cc

le-gt : (o : Ordering) → is_le o ≡ true → is_gt o ≡ false
le-gt Less e = refl
le-gt Equal e = refl
le-gt Greater e = cc

back-lt : (o : Ordering) → is_lt (ordering_reverse o) ≡ false → is_le o ≡ true
back-lt Less e = refl
back-lt Equal e = refl
back-lt Greater e = cc

back-le : (o : Ordering) → is_le o ≡ true → is_lt (ordering_reverse o) ≡ false
back-le Less e = refl
back-le Equal e = refl
back-le Greater e = cc

module _ {K : Type 0} {R : K → K → Ordering} (total : IsTotalOrder R) where
  pub le-trans : (x y z : K) → is_le (R x y) ≡ true → is_le (R y z) ≡ true → is_le (R x z) ≡ true
  le-trans x y z p q = gt-le (R x z) (upto total x y z (le-gt (R x y) p) (le-gt (R y z) q))

  pub le-refl : (x : K) → is_le (R x x) ≡ true
  le-refl x = ap is_le (tied_itself total x)

  pub le-from_sorted : (x y : K) → is_lt (R y x) ≡ false → is_le (R x y) ≡ true
  le-from_sorted x y e = back-lt (R x y) (ap is_lt (sym (total.antisymm y x)) ∙ e)

  pub sorted_from-le : (x y : K) → is_le (R x y) ≡ true → is_lt (R y x) ≡ false
  sorted_from-le x y e = ap is_lt (total.antisymm y x) ∙ back-le (R x y) e

  -- one is up to the other, or strictly above it
  pub le-or : (x y : K) → (is_le (R x y) ≡ true) ⊎ (R y x ≡ Less)
  le-or x y =
      elim (R x y) as (λ o. R x y ≡ o → (is_le (R x y) ≡ true) ⊎ (R y x ≡ Less)) [
        | Less ↦ λ e. inl (ap is_le e)
        | Equal ↦ λ e. inl (ap is_le e)
        | Greater ↦ λ e. inr (total.antisymm y x ∙ ap ordering_reverse e)
      ] refl

  pub le-from_less : (x y : K) → R x y ≡ Less → is_le (R x y) ≡ true
  le-from_less x y e = ap is_le e

  -- what is strictly above isn't up to
  pub less-not_le : (x y : K) → R y x ≡ Less → is_le (R x y) ≡ true → ⊥
  less-not_le x y e p = true≢false (sym p ∙ ap is_le (total.antisymm x y ∙ ap ordering_reverse e))

first_not_lt : (a b : Ordering) → is_lt (ordering_then a b) ≡ false → is_lt a ≡ false
first_not_lt Less b e = e
first_not_lt Equal b e = refl
first_not_lt Greater b e = e

both_equal : (o p : Ordering) → ordering_then o p ≡ Equal → (o ≡ Equal) × (p ≡ Equal)
both_equal Equal p e = (refl, e)
both_equal Less p e = (e, cc)
both_equal Greater p e = (e, cc)

-- ---- the order of files

-- what is compared at level 0, and what above it
abbrev number_of : FileMeta → ℕ
number_of file = cond (file.level == 0) file.max_seq 0

abbrev least_of : FileMeta → Values
least_of file = cond (file.level == 0) [] file.min_key

within : (n m : ℕ) (s t : ℕ) (k l : Values) (names : Ordering) → n ≡ m
    → ordering_then (nat_cmp (cond (m == 0) t 0) (cond (n == 0) s 0)) (ordering_then (key_cmp (cond (n == 0) [] k) (cond (m == 0) [] l)) names)
    ≡ ordering_then (cond (n == 0) (nat_cmp t s) (key_cmp k l)) names
within n m s t k l names e =
    subst (λ m. ordering_then (nat_cmp (cond (m == 0) t 0) (cond (n == 0) s 0)) (ordering_then (key_cmp (cond (n == 0) [] k) (cond (m == 0) [] l)) names)
    ≡ ordering_then (cond (n == 0) (nat_cmp t s) (key_cmp k l)) names) e
    (elim (n == 0) as (λ b. ordering_then (nat_cmp (cond b t 0) (cond b s 0)) (ordering_then (key_cmp (cond b [] k) (cond b [] l)) names)
    ≡ ordering_then (cond b (nat_cmp t s) (key_cmp k l)) names) [ true ↦ refl | false ↦ refl ])

abbrev by_parts : FileMeta → FileMeta → Ordering
by_parts =
    then_cmp (on (λ (f : FileMeta). f.level) nat_cmp)
    (then_cmp (on number_of (flip_args nat_cmp))
    (then_cmp (on least_of key_cmp) (on (λ (f : FileMeta). f.name) (slice_cmp nat_cmp))))

same : (a b : FileMeta) → by_parts a b ≡ file_cmp a b
same a b =
    let names = slice_cmp nat_cmp a.name b.name in
    elim (nat_cmp a.level b.level) as (λ o. nat_cmp a.level b.level ≡ o
    → ordering_then o (ordering_then (nat_cmp (number_of b) (number_of a)) (ordering_then (key_cmp (least_of a) (least_of b)) names))
    ≡ ordering_then o (ordering_then (within_level a b) names)) [
      | Less ↦ λ e. refl
      | Equal ↦ λ e. within a.level b.level a.max_seq b.max_seq a.min_key b.min_key names (nat_cmp-IsAntisymmetric a.level b.level e)
      | Greater ↦ λ e. refl
    ] refl

pub file_total : IsTotalOrder file_cmp
file_total =
    subst IsTotalOrder (λ i a b. same a b i)
    (then_total (on_total (λ (f : FileMeta). f.level) nat_cmp_total)
    (then_total (on_total number_of (back_total nat_cmp_total))
    (then_total (on_total least_of key_total) (on_total (λ (f : FileMeta). f.name) nat_list_cmp_total))))

-- files that tie have one level and one name
pub ties-named : (a b : FileMeta) → file_cmp a b ≡ Equal → (a.level ≡ b.level) × (a.name ≡ b.name)
ties-named a b e =
    let first = both_equal (nat_cmp a.level b.level) (ordering_then (within_level a b) (slice_cmp nat_cmp a.name b.name)) e in
    let second = both_equal (within_level a b) (slice_cmp nat_cmp a.name b.name) first.1 in
    (nat_cmp-IsAntisymmetric a.level b.level first.0, slice_cmp-IsAntisymmetric nat_cmp-IsAntisymmetric a.name b.name second.1)

not_less : (m n : ℕ) → is_lt (nat_cmp m n) ≡ false → n ≤ m
not_less m n e =
    by_ranked (m < n) (m ≡ n) (n < m) (nat_cmp m n) (ranked m n (nat_cmp m n) refl)
    (λ o less. absurd (true≢false (sym (ap is_lt o) ∙ e)))
    (λ o tie. omega arith)
    (λ o more. omega arith)

-- along sorted files the levels don't fall, and within a level above 0 the least keys don't
pub level-rises : (a b : FileMeta) → is_lt (file_cmp b a) ≡ false → a.level ≤ b.level
level-rises a b e = not_less b.level a.level (first_not_lt (nat_cmp b.level a.level) (ordering_then (within_level b a) (slice_cmp nat_cmp b.name a.name)) e)

pub key-rises : (a b : FileMeta) → a.level ≡ b.level → 0 < a.level → is_lt (file_cmp b a) ≡ false → IsUpTo a.min_key b.min_key
key-rises a b level above e =
    let names = slice_cmp nat_cmp b.name a.name in
    let tie : nat_cmp b.level a.level ≡ Equal = ap (nat_cmp b.level) level ∙ tied_itself nat_cmp_total b.level in
    let positive : 0 < b.level = omega arith in
    let other : (b.level == 0) ≡ false = grind (arith, nat_tests) in
    let rest : is_lt (ordering_then (within_level b a) names) ≡ false = subst (λ o. is_lt (ordering_then o (ordering_then (within_level b a) names)) ≡ false) tie e in
    let first : is_lt (within_level b a) ≡ false = first_not_lt (within_level b a) names rest in
    le-from_sorted key_total a.min_key b.min_key (subst (λ t. is_lt (cond t (nat_cmp a.max_seq b.max_seq) (key_cmp b.min_key a.min_key)) ≡ false) other first)

-- the test of two files is that of their equals
pub of-both : (a b x y : FileMeta) → a ≡ x → b ≡ y → is_lt (file_cmp a b) ≡ false → is_lt (file_cmp x y) ≡ false
of-both a b x y p q e = subst (λ f. is_lt (file_cmp f y) ≡ false) p (subst (λ g. is_lt (file_cmp a g) ≡ false) q e)

-- in sorted files none is below one before it
pub none_below : (files : List FileMeta) → IsSorted file_cmp files → (i j : ℕ) (d : FileMeta) → i ≤ j → j < length files
    → is_lt (file_cmp (get_or files j d) (get_or files i d)) ≡ false
none_below files sorted i j d le lt = sorted_far (λ (a b : FileMeta). is_lt (file_cmp a b)) (ranks_by file_total (λ (f : FileMeta). f)) files sorted i j d le lt

-- ---- parts of sorted files

pub sorted-tail : (x : FileMeta) (xs : List FileMeta) → IsSorted file_cmp (x ∷ xs) → IsSorted file_cmp xs
sorted-tail x xs sorted = λ k d low high. later k d (sorted (suc k) d (omega arith) (omega arith))
  where
    shifted : (k : ℕ) → suc k + 1 ≡ suc (k + 1)
    shifted k = omega arith

    later : (k : ℕ) (d : FileMeta) → is_lt (file_cmp (get_or (x ∷ xs) (suc k + 1) d) (get_or (x ∷ xs) (suc k) d)) ≡ false → is_lt (file_cmp (get_or xs (k + 1) d) (get_or xs k d)) ≡ false
    later k d h = subst (λ n. is_lt (file_cmp (get_or (x ∷ xs) n d) (get_or xs k d)) ≡ false) (shifted k) h

pub sorted-right : (xs ys : List FileMeta) → IsSorted file_cmp (xs ++ ys) → IsSorted file_cmp ys
sorted-right [] ys sorted = sorted
sorted-right (x ∷ xs) ys sorted = sorted-right xs ys (sorted-tail x (xs ++ ys) sorted)

pub sorted-left : (xs ys : List FileMeta) → IsSorted file_cmp (xs ++ ys) → IsSorted file_cmp xs
sorted-left xs ys sorted = λ k d low high.
    let here : get_or (xs ++ ys) k d ≡ get_or xs k d = get_or_append_left xs ys d k (omega arith) in
    let next : get_or (xs ++ ys) (k + 1) d ≡ get_or xs (k + 1) d = get_or_append_left xs ys d (k + 1) high in
    of-both (get_or (xs ++ ys) (k + 1) d) (get_or (xs ++ ys) k d) (get_or xs (k + 1) d) (get_or xs k d) next here (sorted k d low (omega (arith, length-append xs ys)))
