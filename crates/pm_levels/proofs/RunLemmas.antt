-- Files that are joined into runs one by one, and that their order determines the runs.
use Rattle.std.proofs.Common.{◌≡◌, ◌≢◌, ℕ, zero, suc, ◌<◌, ◌≤◌, List, [], ◌∷◌, ◌++◌, length, length-append, get_or, true, false, true≢false, cond, ◌&&◌, ◌==◌, ◌⊎◌, inl, inr, None, Some, IfSome, map, refl, sym, ap, subst, ◌∙◌, append-nil, append_assoc, arith}
use Rattle.std.specs.Prelude.{nat_lt}
use Rattle.std.specs.List.{AllByRecursion, Contains, FoldsTo, last_or}
use Rattle.std.specs.List.Sorted.{IsPermutation, IsSorted}
use Rattle.std.specs.Ordering.{is_lt, ordering_reverse}
use Rattle.std.specs.declared.cmp.Ordering.TheVariants.{Less, Equal, Greater}
use Rattle.std.proofs.lemmas.Bool.{and_parts, cases_lt, eqb-true, ltb-true}
use Rattle.std.proofs.lemmas.Bool.Decides.{nat_tests}
use Rattle.std.proofs.lemmas.List.{flat_map_more, get_or_append_left, get_or_at, get_or_default, map_push}
use Rattle.std.proofs.lemmas.List.Elements.{recursion_from_All}
use Rattle.std.proofs.lemmas.List.Sorted.{Contains-permutation, IsPermutation-sym, IsPermutation-trans}
use Rattle.pm_base.proofs.Laws.{AllByRecursion-parts, AllByRecursion-push, last_or-push}
use Rattle.pm_values.specs.declared.file_meta.FileMeta.{FileMeta}
use Rattle.pm_levels.specs.declared.runs.RunFiles.{RunFiles}
use Rattle.pm_levels.specs.Order.{file_cmp}
use Rattle.pm_levels.specs.Runs.{AreNamedApart, AreRuns, EndsApart, IsRun, LevelsRise, Puts, RunView, begins, files_of, goes_on, joins, lone, longer, run_of}
use Rattle.pm_levels.proofs.OrderLemmas.{file_total, level-rises, none_below, of-both, sorted-tail, ties-named}
use Rattle.pm_levels.proofs.PairLemmas.{two-at, two-moved, two-right}

-- ---- one file more

IsRun-lone : (file : FileMeta) → IsRun (lone file)
IsRun-lone file = record { own = (refl, tt); some = omega arith; alone = λ e. refl }

IsRun-longer : (run : RunView) (file : FileMeta) → run.level ≡ file.level → file.level ≢ 0 → IsRun run → IsRun (longer run file)
IsRun-longer run file level high is = record {
  own = AllByRecursion-push (λ (f : FileMeta). f.level ≡ run.level) run.files file is.own (sym level);
  some = omega (arith, length-append run.files (file ∷ []));
  alone = λ e. absurd (high (sym level ∙ e));
}

puts-each : (old new : List RunView) (file : FileMeta) → Puts old file new → AllByRecursion IsRun old → AllByRecursion IsRun new
puts-each old _ file (begins apart) each = AllByRecursion-push IsRun old (lone file) each (IsRun-lone file)
puts-each old _ file (joins others last is level high) each =
    let parts = AllByRecursion-parts IsRun others (last ∷ []) (subst (AllByRecursion IsRun) is each) in
    AllByRecursion-push IsRun others (longer last file) parts.0 (IsRun-longer last file level high parts.1.0)

files-push : (runs : List RunView) (run : RunView) → files_of (runs ++ run ∷ []) ≡ files_of runs ++ run.files
files-push runs run = sym (flat_map_more (λ (r : RunView). r.files) [] runs run)

puts-files : (old new : List RunView) (file : FileMeta) → Puts old file new → files_of new ≡ files_of old ++ file ∷ []
puts-files old _ file (begins apart) = files-push old (lone file)
puts-files old _ file (joins others last is level high) =
    files-push others (longer last file)
    ∙ sym (append_assoc (files_of others) last.files (file ∷ []))
    ∙ ap (λ fs. fs ++ file ∷ []) (sym (files-push others last) ∙ ap files_of (sym is))

-- the one run comes before the other
abbrev Precedes : RunView → RunView → Type 0
Precedes run other = (run.level < other.level) ⊎ ((run.level ≡ 0) × (other.level ≡ 0))

precedes-trans : (a b c : RunView) → Precedes a b → Precedes b c → Precedes a c
precedes-trans a b c (inl p) (inl q) = inl (omega arith)
precedes-trans a b c (inl p) (inr q) = absurd (omega (arith, q.0))
precedes-trans a b c (inr p) (inl q) = inl (omega (arith, p.0, p.1))
precedes-trans a b c (inr p) (inr q) = inr (p.0, q.1)

rise-push : (runs : List RunView) (run : RunView) → LevelsRise runs → AllByRecursion (λ (r : RunView). Precedes r run) runs → LevelsRise (runs ++ run ∷ [])
rise-push [] run rise before = (tt, tt)
rise-push (r ∷ rs) run rise before = (AllByRecursion-push (Precedes r) rs run rise.0 before.0, rise-push rs run rise.1 before.1)

rise-parts : (runs : List RunView) (run : RunView) → LevelsRise (runs ++ run ∷ []) → LevelsRise runs × AllByRecursion (λ (r : RunView). Precedes r run) runs
rise-parts [] run rise = (tt, tt)
rise-parts (r ∷ rs) run rise =
    let parts = AllByRecursion-parts (Precedes r) rs (run ∷ []) rise.0 in
    let more = rise-parts rs run rise.1 in
    ((parts.0, more.0), (parts.1.0, more.1))

precede-all : (runs : List RunView) (file : FileMeta) → LevelsRise runs → IfSome (last_or None runs) (λ (r : RunView). r.level ≤ file.level) → EndsApart runs file
    → AllByRecursion (λ (r : RunView). Precedes r (lone file)) runs
precede-all [] file rise upto apart = tt
precede-all (r ∷ []) file rise upto apart = (
  elim (cases_lt r.level file.level) as (λ _. Precedes r (lone file)) [
    | inl less ↦ inl less
    | inr not_less ↦ let same : r.level ≡ file.level = omega arith in inr (same ∙ apart same, apart same)
  ],
  tt,
)
precede-all (r ∷ s ∷ more) file rise upto apart =
    let rest = precede-all (s ∷ more) file rise.1 upto apart in
    (precedes-trans r s (lone file) rise.0.0 rest.0, rest)

puts-levels : (old new : List RunView) (file : FileMeta) → Puts old file new → IfSome (last_or None old) (λ (r : RunView). r.level ≤ file.level) → LevelsRise old → LevelsRise new
puts-levels old _ file (begins apart) upto rise = rise-push old (lone file) rise (precede-all old file rise upto apart)
puts-levels old _ file (joins others last is level high) upto rise =
    let parts = rise-parts others last (subst LevelsRise is rise) in
    rise-push others (longer last file) parts.0 parts.1

-- what `put` does, by the items before and after
goes : (run : RunView) (file : FileMeta) → goes_on run file ≡ true → (run.level ≡ file.level) × (file.level ≢ 0)
goes run file e =
    let both = and_parts (run.level == file.level) (nat_lt 0 file.level) e in
    let above : 0 < file.level = ltb-true 0 file.level both.1 in
    (eqb-true run.level file.level both.0, λ z. omega arith)

goes_not : (run : RunView) (file : FileMeta) → goes_on run file ≡ false → run.level ≡ file.level → file.level ≡ 0
goes_not run file e level = grind (arith, nat_tests)

pub puts-joins : (old others new : List RunFiles) (last more : RunFiles) (file : FileMeta) → old ≡ others ++ last ∷ [] → goes_on (run_of last) file ≡ true
    → run_of more ≡ longer (run_of last) file → new ≡ others ++ more ∷ [] → Puts (map run_of old) file (map run_of new)
puts-joins old others new last more file was test is now =
    let both = goes (run_of last) file test in
    let before : map run_of old ≡ map run_of others ++ run_of last ∷ [] = ap (map run_of) was ∙ map_push run_of others last in
    let after : map run_of others ++ longer (run_of last) file ∷ [] ≡ map run_of new = ap (λ r. map run_of others ++ r ∷ []) (sym is) ∙ sym (map_push run_of others more) ∙ ap (map run_of) (sym now) in
    subst (Puts (map run_of old) file) after (joins (map run_of others) (run_of last) before both.0 both.1)

pub puts-begins : (old new : List RunFiles) (more : RunFiles) (file : FileMeta) → EndsApart (map run_of old) file
    → run_of more ≡ lone file → new ≡ old ++ more ∷ [] → Puts (map run_of old) file (map run_of new)
puts-begins old new more file apart is now =
    let after : map run_of old ++ lone file ∷ [] ≡ map run_of new = ap (λ r. map run_of old ++ r ∷ []) (sym is) ∙ sym (map_push run_of old more) ∙ ap (map run_of) (sym now) in
    subst (Puts (map run_of old) file) after (begins apart)

pub ends-apart : (old others : List RunFiles) (last : RunFiles) (file : FileMeta) → old ≡ others ++ last ∷ [] → goes_on (run_of last) file ≡ false → EndsApart (map run_of old) file
ends-apart old others last file was test =
    let ends : last_or None (map run_of old) ≡ Some (run_of last) = ap (λ rs. last_or None (map run_of rs)) was ∙ ap (last_or None) (map_push run_of others last) ∙ last_or-push None (map run_of others) (run_of last) in
    subst (λ o. IfSome o (λ (r : RunView). r.level ≡ file.level → file.level ≡ 0)) (sym ends) (goes_not (run_of last) file test)

pub ends-none : (old : List RunFiles) (file : FileMeta) → old ≡ [] → EndsApart (map run_of old) file
ends-none old file was = subst (λ rs. EndsApart (map run_of rs) file) (sym was) tt

-- ---- all files

some-level : (files : List FileMeta) (level n : ℕ) → AllByRecursion (λ (f : FileMeta). f.level ≡ level) files → 0 < length files → AllByRecursion (λ (f : FileMeta). f.level ≤ n) files → level ≤ n
some-level [] level n own some below = absurd (omega arith)
some-level (f ∷ fs) level n own some below = subst (λ m. m ≤ n) own.0 below.0

last-level : (runs : List RunView) (n : ℕ) → AllByRecursion IsRun runs → AllByRecursion (λ (f : FileMeta). f.level ≤ n) (files_of runs) → IfSome (last_or None runs) (λ (r : RunView). r.level ≤ n)
last-level [] n each below = tt
last-level (r ∷ []) n each below = some-level r.files r.level n each.0.own each.0.some (AllByRecursion-parts (λ (f : FileMeta). f.level ≤ n) r.files [] below).0
last-level (r ∷ s ∷ more) n each below = last-level (s ∷ more) n each.1 (AllByRecursion-parts (λ (f : FileMeta). f.level ≤ n) r.files (files_of (s ∷ more)) below).1

-- no file before one in sorted files is of a higher level
levels-below : (done : List FileMeta) (x : FileMeta) (rest : List FileMeta) → IsSorted file_cmp (done ++ x ∷ rest) → AllByRecursion (λ (f : FileMeta). f.level ≤ x.level) done
levels-below done x rest sorted = recursion_from_All (λ (f : FileMeta). f.level ≤ x.level) done (λ k d within.
    let all = done ++ x ∷ rest in
    let here : get_or all k d ≡ get_or done k d = get_or_append_left done (x ∷ rest) d k within in
    let there : get_or all (length done) d ≡ x = get_or_at done x rest d (length done) refl in
    let inside : length done < length all = omega (arith, length-append done (x ∷ rest)) in
    level-rises (get_or done k d) x (of-both (get_or all (length done) d) (get_or all k d) x (get_or done k d) there here (none_below all sorted k (length done) d (omega arith) inside)))

-- the files are those, and the runs are formed
pub record Forms (files : List FileMeta) (runs : List RunView) : Type 0 where
  pub all : files_of runs ≡ files
  pub each : AllByRecursion IsRun runs
  pub levels : LevelsRise runs

forms : (done rest : List FileMeta) (old new : List RunView) → IsSorted file_cmp (done ++ rest) → Forms done old → FoldsTo Puts old rest new → Forms (done ++ rest) new
forms done [] old new sorted so_far folds = subst (Forms (done ++ [])) folds (subst (λ fs. Forms fs old) (sym (append-nil done)) so_far)
forms done (file ∷ rest) old new sorted so_far folds =
    let step = folds.1 in
    let below = last-level old file.level so_far.each (subst (AllByRecursion (λ (f : FileMeta). f.level ≤ file.level)) (sym so_far.all) (levels-below done file rest sorted)) in
    let next : Forms (done ++ file ∷ []) folds.0 = record {
      all = puts-files old folds.0 file step ∙ ap (λ fs. fs ++ file ∷ []) so_far.all;
      each = puts-each old folds.0 file step so_far.each;
      levels = puts-levels old folds.0 file step below so_far.levels;
    } in
    subst (λ fs. Forms fs new) (append_assoc done (file ∷ []) rest)
    (forms (done ++ file ∷ []) rest folds.0 new (subst (IsSorted file_cmp) (sym (append_assoc done (file ∷ []) rest)) sorted) next folds.2)

pub are-runs : (files sorted : List FileMeta) (runs : List RunView) → IsPermutation files sorted → IsSorted file_cmp sorted → FoldsTo Puts [] sorted runs → AreRuns files runs
are-runs files sorted runs same order folds =
    let all = forms [] sorted [] runs order (record { all = refl; each = tt; levels = tt }) folds in
    record {
      whole = subst (IsPermutation files) (sym all.all) same;
      order = subst (IsSorted file_cmp) (sym all.all) order;
      each = all.each;
      levels = all.levels;
    }

-- ---- the files in their order determine the runs

abbrev join : FileMeta → List RunView → List RunView
join file [] = lone file ∷ []
join file (r ∷ rs) = cond (goes_on r file) (record { level = r.level; files = file ∷ r.files } ∷ rs) (lone file ∷ r ∷ rs)

abbrev grouped : List FileMeta → List RunView
grouped [] = []
grouped (f ∷ fs) = join f (grouped fs)

other-level : (m n : ℕ) → (n < m) ⊎ ((n ≡ 0) × (m ≡ 0)) → ((m == n) && nat_lt 0 n) ≡ false
other-level m n (inl less) = grind (arith, nat_tests)
other-level m n (inr both) = let zero_is : n ≡ 0 = both.0 in grind (arith, nat_tests)

same-level : (m n : ℕ) → m ≡ n → n ≢ 0 → ((m == n) && nat_lt 0 n) ≡ true
same-level m n e high = grind (arith, nat_tests)

join-begins : (file : FileMeta) (runs : List RunView) → AllByRecursion (Precedes (lone file)) runs → join file runs ≡ lone file ∷ runs
join-begins file [] before = refl
join-begins file (r ∷ rs) before = ap (λ t. cond t (record { level = r.level; files = file ∷ r.files } ∷ rs) (lone file ∷ r ∷ rs)) (other-level r.level file.level before.0)

join-joins : (file : FileMeta) (level : ℕ) (files : List FileMeta) (runs : List RunView) → level ≡ file.level → file.level ≢ 0
    → join file (record { level = level; files = files } ∷ runs) ≡ record { level = level; files = file ∷ files } ∷ runs
join-joins file level files runs e high =
    ap (λ t. cond t (record { level = level; files = file ∷ files } ∷ runs) (lone file ∷ record { level = level; files = files } ∷ runs)) (same-level level file.level e high)

regroups-run : (level : ℕ) (files : List FileMeta) (runs : List RunView) → AllByRecursion (λ (f : FileMeta). f.level ≡ level) files → 0 < length files → (level ≡ 0 → length files ≡ 1)
    → AllByRecursion (λ (r : RunView). (level < r.level) ⊎ ((level ≡ 0) × (r.level ≡ 0))) runs → grouped (files_of runs) ≡ runs
    → grouped (files ++ files_of runs) ≡ record { level = level; files = files } ∷ runs
regroups-run level [] runs own some alone before e = absurd (omega arith)
regroups-run level (f ∷ []) runs own some alone before e =
    ap (join f) e
    ∙ join-begins f runs (subst (λ n. AllByRecursion (λ (r : RunView). (n < r.level) ⊎ ((n ≡ 0) × (r.level ≡ 0))) runs) (sym own.0) before)
    ∙ ap (λ n. record { level = n; files = f ∷ [] } ∷ runs) own.0
regroups-run level (f ∷ g ∷ fs) runs own some alone before e =
    let high : level ≢ 0 = λ z. let one = alone z in omega arith in
    ap (join f) (regroups-run level (g ∷ fs) runs own.1 (omega arith) (λ z. absurd (high z)) before e)
    ∙ join-joins f level (g ∷ fs) runs (sym own.0) (λ z. high (sym own.0 ∙ z))

regroups : (runs : List RunView) → AllByRecursion IsRun runs → LevelsRise runs → grouped (files_of runs) ≡ runs
regroups [] each levels = refl
regroups (r ∷ rs) each levels = regroups-run r.level r.files rs each.0.own each.0.some each.0.alone levels.0 (regroups rs each.1 levels.1)

-- ---- files have one order, where their names differ

abbrev Strict : List FileMeta → Type 0
Strict [] = Unit {0}
Strict (x ∷ xs) = AllByRecursion (λ y. file_cmp x y ≡ Less) xs × Strict xs

less-from : (x y : FileMeta) → is_lt (file_cmp y x) ≡ false → (file_cmp x y ≡ Equal → ⊥) → file_cmp x y ≡ Less
less-from x y after apart =
    elim (file_cmp x y) as (λ o. file_cmp x y ≡ o → file_cmp x y ≡ Less) [
      | Less ↦ λ e. e
      | Equal ↦ λ e. absurd (apart e)
      | Greater ↦ λ e. absurd (true≢false (sym (ap is_lt (file_total.antisymm y x ∙ ap ordering_reverse e)) ∙ after))
    ] refl

strict : (xs : List FileMeta) → IsSorted file_cmp xs → AreNamedApart xs → Strict xs
strict [] sorted named = tt
strict (x ∷ xs) sorted named = (
  recursion_from_All (λ y. file_cmp x y ≡ Less) xs (λ k d within.
      let y = get_or xs k d in
      let two = two-at (x ∷ xs) 0 (suc k) x y (omega arith) (omega arith) refl (get_or_default xs k y d within) in
      less-from x y (none_below (x ∷ xs) sorted 0 (suc k) d (omega arith) (omega arith))
      (λ e. let ties = ties-named x y e in named x y two ties.0 ties.1)),
  strict xs (sorted-tail x xs sorted) (λ a b two. named a b (two-right a b (x ∷ []) xs two)),
)

-- the file is one of them
abbrev In : FileMeta → List FileMeta → Type 0
In z [] = ⊥
In z (x ∷ xs) = (x ≡ z) ⊎ In z xs

in-contains : (z : FileMeta) (xs : List FileMeta) → In z xs → Contains xs z
in-contains z [] h = absurd h
in-contains z (x ∷ xs) (inl e) = (zero, omega arith, e)
in-contains z (x ∷ xs) (inr h) = let rest = in-contains z xs h in (suc rest.0, omega (arith, rest.1), rest.2)

contains-in : (z : FileMeta) (xs : List FileMeta) (k : ℕ) → k < length xs → get_or xs k z ≡ z → In z xs
contains-in z [] k within at = absurd (omega arith)
contains-in z (x ∷ xs) zero within at = inl at
contains-in z (x ∷ xs) (suc k) within at = inr (contains-in z xs k (omega arith) at)

all-in : (P : FileMeta → Type 0) (z : FileMeta) (xs : List FileMeta) → AllByRecursion P xs → In z xs → P z
all-in P z [] all h = absurd h
all-in P z (x ∷ xs) all (inl e) = subst P e all.0
all-in P z (x ∷ xs) all (inr h) = all-in P z xs all.1 h

not-both-less : (x y : FileMeta) → file_cmp x y ≡ Less → file_cmp y x ≡ Less → ⊥
not-both-less x y p q = true≢false (sym (ap is_lt q) ∙ ap is_lt (file_total.antisymm y x ∙ ap ordering_reverse p))

not-itself : (x : FileMeta) → file_cmp x x ≡ Less → ⊥
not-itself x p = not-both-less x x p p

same-head : (x y : FileMeta) (xs ys : List FileMeta) → Strict (x ∷ xs) → Strict (y ∷ ys) → In x (y ∷ ys) → In y (x ∷ xs) → x ≡ y
same-head x y xs ys sx sy (inl e) h = sym e
same-head x y xs ys sx sy (inr p) (inl e) = e
same-head x y xs ys sx sy (inr p) (inr q) = absurd (not-both-less x y (all-in (λ z. file_cmp x z ≡ Less) y xs sx.0 q) (all-in (λ z. file_cmp y z ≡ Less) x ys sy.0 p))

-- what is in the rest of a list is in the rest of the other
rest-in : (x y z : FileMeta) (xs ys : List FileMeta) → x ≡ y → Strict (x ∷ xs) → In z xs → In z (y ∷ ys) → In z ys
rest-in x y z xs ys same sx h (inl e) = absurd (not-itself x (subst (λ w. file_cmp x w ≡ Less) (sym (same ∙ e)) (all-in (λ w. file_cmp x w ≡ Less) z xs sx.0 h)))
rest-in x y z xs ys same sx h (inr p) = p

same-strict : (xs ys : List FileMeta) → Strict xs → Strict ys → ((z : FileMeta) → In z xs → In z ys) → ((z : FileMeta) → In z ys → In z xs) → xs ≡ ys
same-strict [] [] sx sy to back = refl
same-strict [] (y ∷ ys) sx sy to back = absurd (back y (inl refl))
same-strict (x ∷ xs) [] sx sy to back = absurd (to x (inl refl))
same-strict (x ∷ xs) (y ∷ ys) sx sy to back =
    let same : x ≡ y = same-head x y xs ys sx sy (to x (inl refl)) (back y (inl refl)) in
    let rest : xs ≡ ys = same-strict xs ys sx.1 sy.1
    (λ z h. rest-in x y z xs ys same sx h (to z (inr h)))
    (λ z h. rest-in y x z ys xs (sym same) sy h (back z (inr h))) in
    λ i. same i ∷ rest i

in-permutation : (xs ys : List FileMeta) → IsPermutation xs ys → (z : FileMeta) → In z xs → In z ys
in-permutation xs ys same z h = let c = Contains-permutation xs ys z same (in-contains z xs h) in contains-in z ys c.0 c.1 c.2

pub same-runs : (files more : List FileMeta) (runs others : List RunView) → AreNamedApart files → IsPermutation files more → AreRuns files runs → AreRuns more others → runs ≡ others
same-runs files more runs others named moved first second =
    let xs = files_of runs in
    let ys = files_of others in
    let over : IsPermutation files ys = IsPermutation-trans files more ys moved second.whole in
    let same : IsPermutation xs ys = IsPermutation-trans xs files ys (IsPermutation-sym files xs first.whole) over in
    let sx = strict xs first.order (λ a b two. named a b (two-moved a b xs files (IsPermutation-sym files xs first.whole) two)) in
    let sy = strict ys second.order (λ a b two. named a b (two-moved a b ys files (IsPermutation-sym files ys over) two)) in
    let equal : xs ≡ ys = same-strict xs ys sx sy (in-permutation xs ys same) (in-permutation ys xs (IsPermutation-sym xs ys same)) in
    sym (regroups runs first.each first.levels) ∙ ap grouped equal ∙ regroups others second.each second.levels
