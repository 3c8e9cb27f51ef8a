-- What is chosen are the newest runs.
use Rattle.std.proofs.Common.{◌≡◌, ◌⊎◌, inl, inr, ℕ, zero, suc, ◌+◌, ◌-◌, ◌<◌, ◌≤◌, min, Bool, true, false, not, cond, ◌&&◌, ◌||◌, List, [], ◌∷◌, length, length-drop, map, take, drop, filter, get_or, Option, Some, None, refl, sym, ap, subst, ◌∙◌, arith, le_refl}
use Rattle.std.specs.Prelude.{◌==◌, nat_le, nat_lt}
use Rattle.std.specs.List.{AllByRecursion, position_or_len, range_with_len}
use Rattle.std.specs.Option.{option_or}
use Rattle.std.proofs.lemmas.Bool.{and_parts, cases_lt, eqb-false, ltb-true, leb-true}
use Rattle.std.proofs.lemmas.Bool.Decides.{nat_tests}
use Rattle.std.proofs.lemmas.List.{length-map}
use Rattle.std.proofs.lemmas.List.FromFn.{length-range_with_len}
use Rattle.std.proofs.lemmas.List.Sums.{count_by-le-length, length-filter, prefix_len-le-length}
use Rattle.pm_levels.specs.declared.choice.Asked.{Asked}
use Rattle.pm_levels.specs.declared.choice.Asked.TheVariants.{Full, LevelZero, No}
use Rattle.pm_levels.specs.declared.choice.Pick.{Pick}
use Rattle.pm_levels.specs.declared.choice.PickRule.{PickRule}
use Rattle.pm_levels.specs.declared.runs.RunSize.{RunSize}
use Rattle.pm_levels.specs.Picking.{IsChoice, all_of, by_size, close, in_full, is_ample, is_large, by_zeros, picked, run_at, stretch, top_of, up_to_one, zeros_of}
use Rattle.pm_levels.specs.Runs.{LevelsRise, RunView}
use Rattle.pm_levels.specs.Sizes.{size_of}

-- ---- lists

abbrev Below : RunSize → RunSize → Type 0
Below run other = (run.level < other.level) ⊎ ((run.level ≡ 0) × (other.level ≡ 0))

abbrev Rise : List RunSize → Type 0
Rise [] = Unit {0}
Rise (run ∷ older) = AllByRecursion (Below run) older × Rise older

map-all : {A : Type 0} {P Q : A → Type 0} → ((x : A) → P x → Q x) → (xs : List A) → AllByRecursion P xs → AllByRecursion Q xs
map-all f [] all = tt
map-all f (x ∷ xs) all = (f x all.0, map-all f xs all.1)

take-keeps : {A : Type 0} (P : A → Type 0) (n : ℕ) (xs : List A) → AllByRecursion P xs → AllByRecursion P (take n xs)
take-keeps P zero xs all = tt
take-keeps P (suc n) [] all = tt
take-keeps P (suc n) (x ∷ xs) all = (all.0, take-keeps P n xs all.1)

drop-keeps : {A : Type 0} (P : A → Type 0) (n : ℕ) (xs : List A) → AllByRecursion P xs → AllByRecursion P (drop n xs)
drop-keeps P zero xs all = all
drop-keeps P (suc n) [] all = tt
drop-keeps P (suc n) (x ∷ xs) all = drop-keeps P n xs all.1

drop-whole : {A : Type 0} (P : A → Type 0) (xs : List A) → AllByRecursion P (drop (length xs) xs)
drop-whole P [] = tt
drop-whole P (x ∷ xs) = drop-whole P xs

at-index : {A : Type 0} (P : A → Type 0) (t : ℕ) (xs : List A) (d : A) → AllByRecursion P xs → t < length xs → P (get_or xs t d)
at-index P t [] d all within = absurd (omega arith)
at-index P zero (y ∷ xs) d all within = all.0
at-index P (suc t) (y ∷ xs) d all within = at-index P t xs d all.1 (omega arith)

take-one : {A : Type 0} (P : A → Type 0) (t : ℕ) (xs : List A) (d : A) → t < length xs → P (get_or xs t d) → AllByRecursion P (take t xs)
    → AllByRecursion P (take (suc t) xs)
take-one P t [] d within own all = tt
take-one P zero (x ∷ xs) d within own all = (own, tt)
take-one P (suc t) (x ∷ xs) d within own all = (all.0, take-one P t xs d (omega arith) own all.1)

first-of : {A : Type 0} (P Q : A → Type 0) (xs : List A) → AllByRecursion P xs → AllByRecursion Q xs → 0 < length xs → (x : A) × P x × Q x
first-of P Q [] ps qs some = absurd (omega arith)
first-of P Q (x ∷ xs) ps qs some = (x, ps.0, qs.0)

-- ---- runs by rising level

-- those before a run are below it
before-run : (t : ℕ) (runs : List RunSize) (d : RunSize) → Rise runs → t < length runs → AllByRecursion (λ (x : RunSize). Below x (get_or runs t d)) (take t runs)
before-run t [] d rise within = absurd (omega arith)
before-run zero (x ∷ runs) d rise within = tt
before-run (suc t) (x ∷ runs) d rise within =
    (at-index (Below x) t runs d rise.0 (omega arith), before-run t runs d rise.1 (omega arith))

-- and those from it on are it and runs above it
from-run : (t : ℕ) (runs : List RunSize) (d : RunSize) → Rise runs → t < length runs
    → (drop t runs ≡ get_or runs t d ∷ drop (suc t) runs) × AllByRecursion (Below (get_or runs t d)) (drop (suc t) runs)
from-run t [] d rise within = absurd (omega arith)
from-run zero (x ∷ runs) d rise within = (refl, rise.0)
from-run (suc t) (x ∷ runs) d rise within = from-run t runs d rise.1 (omega arith)

-- ---- runs at level 0

abbrev zeros : List RunSize → ℕ
zeros runs = length (filter (λ (run : RunSize). run.level == 0) runs)

zeros-are : (runs : List RunSize) → zeros runs ≡ zeros_of runs
zeros-are runs = length-filter (λ (run : RunSize). run.level == 0) runs

high-test : (n : ℕ) → 1 ≤ n → (n == 0) ≡ false
high-test n some = grind (arith, nat_tests)

above-one : (x y : RunSize) → 1 ≤ x.level → Below x y → 1 ≤ y.level
above-one x y high (inl less) = omega arith
above-one x y high (inr both) = absurd (omega (arith, both.0))

no-zeros : (x : RunSize) (runs : List RunSize) → 1 ≤ x.level → AllByRecursion (Below x) runs → zeros runs ≡ 0
no-zeros x [] high all = refl
no-zeros x (y ∷ runs) high all =
    ap (λ b. length (cond b (y ∷ filter (λ (r : RunSize). r.level == 0) runs) (filter (λ (r : RunSize). r.level == 0) runs)))
    (high-test y.level (above-one x y high all.0))
    ∙ no-zeros x runs high all.1

-- the run at the count of those at level 0 is above it
first-above : (runs : List RunSize) (d : RunSize) → Rise runs → zeros runs < length runs → 1 ≤ (get_or runs (zeros runs) d).level
first-above [] d rise within = absurd (omega arith)
first-above (x ∷ runs) d rise within =
    elim (x.level == 0) as (λ b. (x.level == 0) ≡ b
    → length (cond b (x ∷ filter (λ (r : RunSize). r.level == 0) runs) (filter (λ (r : RunSize). r.level == 0) runs)) < suc (length runs)
    → 1 ≤ (get_or (x ∷ runs) (length (cond b (x ∷ filter (λ (r : RunSize). r.level == 0) runs) (filter (λ (r : RunSize). r.level == 0) runs))) d).level) [
      | true ↦ λ b below. first-above runs d rise.1 (omega arith)
      | false ↦ λ b below.
          let high : 1 ≤ x.level = grind (arith, nat_tests) in
          let none : zeros runs ≡ 0 = no-zeros x runs high rise.0 in
          subst (λ n. 1 ≤ (get_or (x ∷ runs) n d).level) (sym none) high
    ] refl within

-- ---- the choice among sizes

record Takes (top : ℕ) (runs : List RunSize) (p : Pick) : Type 0 where
  some : 1 ≤ p.take
  within : p.take ≤ length runs
  positive : 1 ≤ p.out
  low : AllByRecursion (λ (run : RunSize). run.level ≤ p.out) (take p.take runs)
  high : AllByRecursion (λ (run : RunSize). p.out < run.level) (drop p.take runs)
  whole : ((p.take ≡ length runs) × (p.out ≡ top)) ⊎ ((p.take < length runs) × (p.out < top))

abbrev none : RunSize
none = record { level = 0; bytes = 0 }

module _ (rule : PickRule) (top_some : 1 ≤ top_of rule) (runs : List RunSize) (rise : Rise runs)
    (within : AllByRecursion (λ (run : RunSize). run.level ≤ top_of rule) runs) where
  abbrev top : ℕ
  top = top_of rule

  abbrev n : ℕ
  n = length runs

  all-runs : 1 ≤ n → Takes top runs (all_of runs rule)
  all-runs some = record {
    some = some;
    within = le_refl n;
    positive = top_some;
    low = take-keeps (λ (run : RunSize). run.level ≤ top) n runs within;
    high = drop-whole (λ (run : RunSize). top < run.level) runs;
    whole = inl (refl, refl);
  }

  -- the first so many runs, to the level below that of the next one
  under : (t : ℕ) → 1 ≤ t → t < n → 2 ≤ (get_or runs t none).level → Takes top runs (record { take = t; out = (get_or runs t none).level - 1 })
  under t some inside high =
      let next : RunSize = get_or runs t none in
      let at_most : next.level ≤ top = at-index (λ (run : RunSize). run.level ≤ top) t runs none within inside in
      record {
        some = some;
        within = omega arith;
        positive = omega arith;
        low = map-all (λ x b. low_at x b) (take t runs) (before-run t runs none rise inside);
        high = subst (AllByRecursion (λ (run : RunSize). next.level - 1 < run.level)) (sym (from-run t runs none rise inside).0)
            (omega arith, map-all (λ x b. high_at x b) (drop (suc t) runs) (from-run t runs none rise inside).1);
        whole = inr (inside, omega arith);
      }
    where
      low_at : (x : RunSize) → Below x (get_or runs t none) → x.level ≤ (get_or runs t none).level - 1
      low_at x (inl less) = omega arith
      low_at x (inr both) = omega (arith, both.0)

      high_at : (x : RunSize) → Below (get_or runs t none) x → (get_or runs t none).level - 1 < x.level
      high_at x (inl less) = omega arith
      high_at x (inr both) = absurd (omega (arith, both.0))

  -- the first so many runs, the last of which is above level 0, to the level of that one
  through : (t : ℕ) → suc t < n → 1 ≤ (get_or runs t none).level → Takes top runs (record { take = suc t; out = (get_or runs t none).level })
  through t more high =
      let inside : t < n = omega arith in
      let parts = from-run t runs none rise inside in
      let run : RunSize = get_or runs t none in
      record {
        some = omega arith;
        within = omega arith;
        positive = high;
        low = take-one (λ (x : RunSize). x.level ≤ run.level) t runs none inside (le_refl run.level)
            (map-all (λ x b. low_at x b) (take t runs) (before-run t runs none rise inside));
        high = map-all (λ x b. high_at x b) (drop (suc t) runs) parts.1;
        whole = inr (
          more,
          next-below (first-of (Below run) (λ (x : RunSize). x.level ≤ top) (drop (suc t) runs) parts.1
              (drop-keeps (λ (x : RunSize). x.level ≤ top) (suc t) runs within) (omega (arith, length-drop (suc t) runs))),
        );
      }
    where
      low_at : (x : RunSize) → Below x (get_or runs t none) → x.level ≤ (get_or runs t none).level
      low_at x (inl less) = omega arith
      low_at x (inr both) = omega (arith, both.0)

      high_at : (x : RunSize) → Below (get_or runs t none) x → (get_or runs t none).level < x.level
      high_at x (inl less) = less
      high_at x (inr both) = absurd (omega (arith, both.0))

      next-below : (x : RunSize) × Below (get_or runs t none) x × (x.level ≤ top) → (get_or runs t none).level < top
      next-below (x, inl less, low) = omega arith
      next-below (x, inr both, low) = absurd (omega (arith, both.0))

  first-level : zeros_of runs < n → 1 ≤ (get_or runs (zeros_of runs) none).level
  first-level more = subst (λ k. k < n → 1 ≤ (get_or runs k none).level) (zeros-are runs) (first-above runs none rise) more

  up-choice : 1 ≤ n → Takes top runs (up_to_one runs rule)
  up-choice some =
      let count = min (zeros_of runs + 1) n in
      elim (count == n) as (λ b. (count == n) ≡ b → Takes top runs (cond b (all_of runs rule) (record { take = count; out = (run_at runs (count - 1)).level }))) [
        | true ↦ λ b. all-runs some
        | false ↦ λ b.
            let apart = eqb-false count n b in
            let more : suc (zeros_of runs) < n = less apart in
            let is : suc (zeros_of runs) ≡ min (zeros_of runs + 1) n = omega arith in
            let before : zeros_of runs ≡ suc (zeros_of runs) - 1 = omega arith in
            subst (λ k. Takes top runs (record { take = k; out = (run_at runs (k - 1)).level })) is
            (subst (λ k. Takes top runs (record { take = suc (zeros_of runs); out = (run_at runs k).level })) before
            (through (zeros_of runs) more (first-level (omega arith))))
      ] refl
    where
      less : (min (zeros_of runs + 1) n ≡ n → ⊥) → suc (zeros_of runs) < n
      less apart = elim (cases_lt (suc (zeros_of runs)) n) as (λ _. suc (zeros_of runs) < n) [
        | inl more ↦ more
        | inr not_more ↦ absurd (apart (omega arith))
      ]

  close-choice : (t : ℕ) → 1 ≤ t → t ≤ n → Takes top runs (close runs rule t)
  close-choice t from most =
      elim (t == n) as (λ b. (t == n) ≡ b → Takes top runs (cond b (all_of runs rule)
      (cond (nat_le 2 (run_at runs t).level) (record { take = t; out = (run_at runs t).level - 1 }) (up_to_one runs rule)))) [
        | true ↦ λ b. all-runs (omega arith)
        | false ↦ λ b.
            let apart = eqb-false t n b in
            elim (nat_le 2 (run_at runs t).level) as (λ b. nat_le 2 (run_at runs t).level ≡ b
            → Takes top runs (cond b (record { take = t; out = (run_at runs t).level - 1 }) (up_to_one runs rule))) [
              | true ↦ λ b. under t from (less apart) (leb-true 2 (run_at runs t).level b)
              | false ↦ λ b. up-choice (omega arith)
            ] refl
      ] refl
    where
      less : (t ≡ n → ⊥) → t < n
      less apart = elim (cases_lt t n) as (λ _. t < n) [
        | inl more ↦ more
        | inr not_more ↦ absurd (apart (omega arith))
      ]

  stretch-least : (t : ℕ) → t ≤ stretch runs rule t
  stretch-least t = omega arith

  stretch-most : (t : ℕ) → t ≤ n → stretch runs rule t ≤ n
  stretch-most t within =
      let most : position_or_len (is_large runs rule) (range_with_len t (n - t)) ≤ length (range_with_len t (n - t)) =
      prefix_len-le-length (λ k. not (is_large runs rule k)) (range_with_len t (n - t)) in
      omega (arith, most, length-range_with_len t (n - t))

  stretch-choice : (t : ℕ) → 1 ≤ t → t ≤ n → Takes top runs (close runs rule (stretch runs rule t))
  stretch-choice t from within = close-choice (stretch runs rule t) (omega (arith, stretch-least t)) (stretch-most t within)

  taken : (q p : Pick) → Takes top runs q → Some q ≡ Some p → Takes top runs p
  taken q p is same = let equal : q ≡ p = cc in subst (Takes top runs) equal is

  zeros-choice : (p : Pick) → by_zeros runs rule ≡ Some p → Takes top runs p
  zeros-choice p is =
      elim (nat_lt 0 (zeros_of runs)) as (λ b. nat_lt 0 (zeros_of runs) ≡ b → cond b (Some (close runs rule (zeros_of runs))) None ≡ Some p → Takes top runs p) [
        | true ↦ λ b e.
            let some = ltb-true 0 (zeros_of runs) b in
            let most = count_by-le-length (λ (run : RunSize). run.level == 0) runs in
            taken (close runs rule (zeros_of runs)) p (close-choice (zeros_of runs) some most) e
        | false ↦ λ b e. cc
      ] refl is

  full-choice : (p : Pick) → in_full runs rule ≡ Some p → Takes top runs p
  full-choice p is =
      let is_one = (n == 1) && ((run_at runs 0).level == top) in
      elim ((n == 0) || is_one) as (λ b. ((n == 0) || is_one) ≡ b → cond b None (Some (all_of runs rule)) ≡ Some p → Takes top runs p) [
        | true ↦ λ b e. cc
        | false ↦ λ b e. taken (all_of runs rule) p (all-runs (some is_one b)) e
      ] refl is
    where
      some : (other : Bool) → ((n == 0) || other) ≡ false → 1 ≤ n
      some other b = grind (arith, nat_tests)

  module _ (trigger_some : 1 ≤ rule.trigger) where
    last-choice : (p : Pick) → cond (nat_lt rule.trigger n) (Some (close runs rule (stretch runs rule (n - rule.trigger + 1)))) None ≡ Some p → Takes top runs p
    last-choice p is =
        elim (nat_lt rule.trigger n) as (λ b. nat_lt rule.trigger n ≡ b
        → cond b (Some (close runs rule (stretch runs rule (n - rule.trigger + 1)))) None ≡ Some p → Takes top runs p) [
          | true ↦ λ b e.
              let more = ltb-true rule.trigger n b in
              taken (close runs rule (stretch runs rule (n - rule.trigger + 1))) p (stretch-choice (n - rule.trigger + 1) (omega arith) (omega arith)) e
          | false ↦ λ b e. cc
        ] refl is

    wide-choice : (p : Pick) → cond (nat_le rule.trigger n && nat_lt 1 (stretch runs rule 1)) (Some (close runs rule (stretch runs rule 1)))
        (cond (nat_lt rule.trigger n) (Some (close runs rule (stretch runs rule (n - rule.trigger + 1)))) None) ≡ Some p → Takes top runs p
    wide-choice p is =
        elim (nat_le rule.trigger n && nat_lt 1 (stretch runs rule 1)) as (λ b. (nat_le rule.trigger n && nat_lt 1 (stretch runs rule 1)) ≡ b
        → cond b (Some (close runs rule (stretch runs rule 1))) (cond (nat_lt rule.trigger n) (Some (close runs rule (stretch runs rule (n - rule.trigger + 1)))) None) ≡ Some p
        → Takes top runs p) [
          | true ↦ λ b e.
              let reached = leb-true rule.trigger n (and_parts (nat_le rule.trigger n) (nat_lt 1 (stretch runs rule 1)) b).0 in
              taken (close runs rule (stretch runs rule 1)) p (stretch-choice 1 (omega arith) (omega arith)) e
          | false ↦ λ b e. last-choice p e
        ] refl is

    size-choice : (p : Pick) → by_size runs rule ≡ Some p → Takes top runs p
    size-choice p is =
        elim (nat_le rule.trigger n && is_ample runs rule) as (λ b. (nat_le rule.trigger n && is_ample runs rule) ≡ b
        → cond b (Some (all_of runs rule)) (cond (nat_le rule.trigger n && nat_lt 1 (stretch runs rule 1)) (Some (close runs rule (stretch runs rule 1)))
        (cond (nat_lt rule.trigger n) (Some (close runs rule (stretch runs rule (n - rule.trigger + 1)))) None)) ≡ Some p → Takes top runs p) [
          | true ↦ λ b e.
              let reached = leb-true rule.trigger n (and_parts (nat_le rule.trigger n) (is_ample runs rule) b).0 in
              taken (all_of runs rule) p (all-runs (omega arith)) e
          | false ↦ λ b e. wide-choice p e
        ] refl is

    either-choice : (p : Pick) (one : Option Pick) → by_size runs rule ≡ one → option_or one (by_zeros runs rule) ≡ Some p → Takes top runs p
    either-choice p None is e = zeros-choice p e
    either-choice p (Some q) is e = size-choice p (is ∙ e)

    choice : (asked : Asked) (p : Pick) → picked runs asked rule ≡ Some p → Takes top runs p
    choice Full p is = full-choice p is
    choice LevelZero p is = either-choice p (by_size runs rule) refl is
    choice No p is = size-choice p is

-- ---- the runs of the sizes

all-sizes : (P : RunSize → Type 0) (runs : List RunView) → AllByRecursion (λ (run : RunView). P (size_of run)) runs → AllByRecursion P (map size_of runs)
all-sizes P [] all = tt
all-sizes P (run ∷ runs) all = (all.0, all-sizes P runs all.1)

sizes-rise : (runs : List RunView) → LevelsRise runs → Rise (map size_of runs)
sizes-rise [] rise = tt
sizes-rise (run ∷ runs) rise = (all-sizes (Below (size_of run)) runs rise.0, sizes-rise runs rise.1)

taken-back : (P : RunSize → Type 0) (t : ℕ) (runs : List RunView) → AllByRecursion P (take t (map size_of runs)) → AllByRecursion (λ (run : RunView). P (size_of run)) (take t runs)
taken-back P zero runs all = tt
taken-back P (suc t) [] all = tt
taken-back P (suc t) (run ∷ runs) all = (all.0, taken-back P t runs all.1)

left-back : (P : RunSize → Type 0) (t : ℕ) (runs : List RunView) → AllByRecursion P (drop t (map size_of runs)) → AllByRecursion (λ (run : RunView). P (size_of run)) (drop t runs)
left-back P zero [] all = tt
left-back P zero (run ∷ runs) all = (all.0, left-back P zero runs all.1)
left-back P (suc t) [] all = tt
left-back P (suc t) (run ∷ runs) all = left-back P t runs all

pub is-choice : (rule : PickRule) (asked : Asked) (runs : List RunView) (p : Pick) → 1 ≤ rule.trigger → 1 ≤ top_of rule → LevelsRise runs
    → AllByRecursion (λ (run : RunView). run.level ≤ top_of rule) runs → picked (map size_of runs) asked rule ≡ Some p → IsChoice (top_of rule) runs p
is-choice rule asked runs p trigger top rise within is =
    let sizes : List RunSize = map size_of runs in
    let same : length sizes ≡ length runs = length-map runs size_of in
    let takes = choice rule top sizes (sizes-rise runs rise) (all-sizes (λ (run : RunSize). run.level ≤ top_of rule) runs within) trigger asked p is in
    record {
      some = takes.some;
      within = subst (λ n. p.take ≤ n) same takes.within;
      positive = takes.positive;
      low = taken-back (λ (run : RunSize). run.level ≤ p.out) p.take runs takes.low;
      high = left-back (λ (run : RunSize). p.out < run.level) p.take runs takes.high;
      whole = subst (λ n. ((p.take ≡ n) × (p.out ≡ top_of rule)) ⊎ ((p.take < n) × (p.out < top_of rule))) same takes.whole;
    }
