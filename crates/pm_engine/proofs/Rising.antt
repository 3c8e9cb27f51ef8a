-- Keys that rise, and the rows of a key.
use Rattle.std.proofs.Common.{◌≡◌, ℕ, suc, ◌+◌, List, [], ◌∷◌, ◌++◌, map, filter, get_or, max, true, false, not, cond, ◌&&◌, None, IfSome, refl, sym, ap, subst, ◌∙◌, arith, append-nil}
use Rattle.std.specs.List.{AllByRecursion, last_or}
use Rattle.std.specs.List.Sorted.{IsSortedBy, IsStableByKey, IsStrictlySortedBy}
use Rattle.std.specs.Cmp.{tied_itself}
use Rattle.std.specs.Ordering.{eq_by_cmp, is_eq, is_lt, ordering_reverse}
use Rattle.std.specs.declared.cmp.Ordering.TheVariants.{Less, Equal, Greater}
use Rattle.std.proofs.lemmas.List.Elements.{filter-append}
use Rattle.pm_values.specs.Order.{Values, key_cmp, key_total}
use Rattle.pm_values.specs.declared.kind.Kind.TheVariants.{Insert}
use Rattle.pm_values.specs.declared.record.Stamped.{Stamped}
use Rattle.pm_values.proofs.Lemmas.{key_cmp-IsAntisymmetric}
use Rattle.pm_engine.specs.Covers.{Run, of_key}
use Rattle.pm_engine.specs.Reducing.{greatest_number}

-- ---- the order of two keys

-- a test that holds of keys that tie says that they are equal
pub tied : (a b : Values) → eq_by_cmp key_cmp a b ≡ true → a ≡ b
tied a b e =
    elim (key_cmp a b) as (λ o. key_cmp a b ≡ o → is_eq o ≡ true → a ≡ b) [
      | Less ↦ λ p q. cc
      | Equal ↦ λ p q. key_cmp-IsAntisymmetric a b p
      | Greater ↦ λ p q. cc
    ] refl e

pub ties_itself : (a : Values) → eq_by_cmp key_cmp a a ≡ true
ties_itself a = ap is_eq (tied_itself key_total a)

-- keys in a strict order don't tie, from either side
pub apart : (a b : Values) → key_cmp a b ≡ Less → eq_by_cmp key_cmp a b ≡ false
apart a b less = ap is_eq less

pub apart_back : (a b : Values) → key_cmp a b ≡ Less → eq_by_cmp key_cmp b a ≡ false
apart_back a b less = ap is_eq (key_total.antisymm b a) ∙ ap (λ o. is_eq (ordering_reverse o)) less

-- a key that isn't above another, and doesn't tie with it, is below it
pub below_from : (a b : Values) → is_lt (key_cmp b a) ≡ false → eq_by_cmp key_cmp a b ≡ false → key_cmp a b ≡ Less
below_from a b above ties_not =
    elim (key_cmp a b) as (λ o. is_lt (ordering_reverse o) ≡ false → is_eq o ≡ false → o ≡ Less) [
      | Less ↦ λ p q. refl
      | Equal ↦ λ p q. cc
      | Greater ↦ λ p q. cc
    ] (sym (ap is_lt (key_total.antisymm b a)) ∙ above) ties_not

-- ---- rising keys

strict-push : (ks : List Values) (k : Values) → IsStrictlySortedBy key_cmp ks → AllByRecursion (λ x. key_cmp x k ≡ Less) ks → IsStrictlySortedBy key_cmp (ks ++ k ∷ [])
unfolding IsStrictlySortedBy
strict-push [] k rising below = (tt, tt)
strict-push (x ∷ xs) k rising below = (all-push xs rising.0 below.0, strict-push xs k rising.1 below.1)
  where
    all-push : (ys : List Values) → AllByRecursion (λ y. key_cmp x y ≡ Less) ys → key_cmp x k ≡ Less → AllByRecursion (λ y. key_cmp x y ≡ Less) (ys ++ k ∷ [])
    all-push [] all one = (one, tt)
    all-push (y ∷ ys) all one = (all.0, all-push ys all.1 one)

all-end : (x k : Values) (ys : List Values) → AllByRecursion (λ y. key_cmp x y ≡ Less) (ys ++ k ∷ []) → AllByRecursion (λ y. key_cmp x y ≡ Less) ys × (key_cmp x k ≡ Less)
all-end x k [] all = (tt, all.0)
all-end x k (y ∷ ys) all = let rest = all-end x k ys all.1 in ((all.0, rest.0), rest.1)

strict-front : (ks : List Values) (k : Values) → IsStrictlySortedBy key_cmp (ks ++ k ∷ []) → IsStrictlySortedBy key_cmp ks × AllByRecursion (λ x. key_cmp x k ≡ Less) ks
unfolding IsStrictlySortedBy
strict-front [] k rising = (tt, tt)
strict-front (x ∷ xs) k rising =
    let rest = strict-front xs k rising.1 in
    let here = all-end x k xs rising.0 in
    ((here.0, rest.0), (here.1, rest.1))

map-push : (run : Run) (s : Stamped) → map (λ (s : Stamped). s.key) (run ++ s ∷ []) ≡ map (λ (s : Stamped). s.key) run ++ s.key ∷ []
map-push [] s = refl
map-push (x ∷ xs) s = ap (λ ks. x.key ∷ ks) (map-push xs s)

-- the keys of a run are below a key
abbrev pub AllBelow : Values → Run → Type 0
AllBelow key run = AllByRecursion (λ (s : Stamped). key_cmp s.key key ≡ Less) run

to_keys : (key : Values) (run : Run) → AllBelow key run → AllByRecursion (λ x. key_cmp x key ≡ Less) (map (λ (s : Stamped). s.key) run)
to_keys key [] all = tt
to_keys key (s ∷ ss) all = (all.0, to_keys key ss all.1)

from_keys : (key : Values) (run : Run) → AllByRecursion (λ x. key_cmp x key ≡ Less) (map (λ (s : Stamped). s.key) run) → AllBelow key run
from_keys key [] all = tt
from_keys key (s ∷ ss) all = (all.0, from_keys key ss all.1)

pub rising-push : (run : Run) (s : Stamped) → IsStrictlySortedBy key_cmp (map (λ (s : Stamped). s.key) run) → AllBelow s.key run → IsStrictlySortedBy key_cmp (map (λ (s : Stamped). s.key) (run ++ s ∷ []))
rising-push run s rising below = subst (IsStrictlySortedBy key_cmp) (sym (map-push run s)) (strict-push (map (λ (s : Stamped). s.key) run) s.key rising (to_keys s.key run below))

pub rising-front : (run : Run) (s : Stamped) → IsStrictlySortedBy key_cmp (map (λ (s : Stamped). s.key) (run ++ s ∷ [])) → IsStrictlySortedBy key_cmp (map (λ (s : Stamped). s.key) run) × AllBelow s.key run
rising-front run s rising =
    let parts = strict-front (map (λ (s : Stamped). s.key) run) s.key (subst (IsStrictlySortedBy key_cmp) (map-push run s) rising) in
    (parts.0, from_keys s.key run parts.1)

-- where the last key is below a key, all are
pub all-below : (key : Values) (run : Run) → IsStrictlySortedBy key_cmp (map (λ (s : Stamped). s.key) run) → IfSome (last_or None run) (λ (s : Stamped). key_cmp s.key key ≡ Less) → AllBelow key run
unfolding IsStrictlySortedBy
all-below key [] rising last = tt
all-below key (x ∷ []) rising last = (last, tt)
all-below key (x ∷ y ∷ more) rising last =
    let rest : AllBelow key (y ∷ more) = all-below key (y ∷ more) rising.1 last in
    (key_total.trans x.key y.key key rising.0.0 rest.0, rest)

-- ---- the rows of a key

-- below a key no row has it
pub of_key-below : (key : Values) (run : Run) → AllBelow key run → of_key key run ≡ []
of_key-below key [] all = refl
of_key-below key (s ∷ ss) all = ap (λ b. cond b (s ∷ of_key key ss) (of_key key ss)) (apart_back s.key key all.0) ∙ of_key-below key ss all.1

pub of_key-push : (key : Values) (run : Run) (s : Stamped) → of_key key (run ++ s ∷ []) ≡ of_key key run ++ cond (eq_by_cmp key_cmp key s.key) (s ∷ []) []
of_key-push key run s = filter-append (λ (s : Stamped). eq_by_cmp key_cmp key s.key) run (s ∷ [])

pub of_key-yes : (key : Values) (run : Run) (s : Stamped) → eq_by_cmp key_cmp key s.key ≡ true → of_key key (run ++ s ∷ []) ≡ of_key key run ++ s ∷ []
of_key-yes key run s test = of_key-push key run s ∙ ap (λ b. of_key key run ++ cond b (s ∷ []) []) test

pub of_key-no : (key : Values) (run : Run) (s : Stamped) → eq_by_cmp key_cmp key s.key ≡ false → of_key key (run ++ s ∷ []) ≡ of_key key run
of_key-no key run s test = of_key-push key run s ∙ ap (λ b. of_key key run ++ cond b (s ∷ []) []) test ∙ append-nil (of_key key run)

-- the greatest number of one row more
pub greatest-push : (run : Run) (s : Stamped) → greatest_number (run ++ s ∷ []) ≡ max (greatest_number run) s.seq
greatest-push [] s = omega arith
greatest-push (x ∷ xs) s = ap (max x.seq) (greatest-push xs s) ∙ joined x.seq (greatest_number xs) s.seq
  where
    joined : (a b c : ℕ) → max a (max b c) ≡ max (max a b) c
    joined a b c = omega arith

-- ---- sorted rows

sorted-tail : (x : Stamped) (xs : Run) → IsSortedBy (λ (a b : Stamped). is_lt (key_cmp a.key b.key)) (x ∷ xs) → IsSortedBy (λ (a b : Stamped). is_lt (key_cmp a.key b.key)) xs
sorted-tail x xs sorted = λ k d low high. later k d (sorted (suc k) d (omega arith) (omega arith))
  where
    shifted : (k : ℕ) → suc k + 1 ≡ suc (k + 1)
    shifted k = omega arith

    later : (k : ℕ) (d : Stamped) → is_lt (key_cmp (get_or (x ∷ xs) (suc k + 1) d).key (get_or (x ∷ xs) (suc k) d).key) ≡ false → is_lt (key_cmp (get_or xs (k + 1) d).key (get_or xs k d).key) ≡ false
    later k d h = subst (λ n. is_lt (key_cmp (get_or (x ∷ xs) n d).key (get_or xs k d).key) ≡ false) (shifted k) h

-- no row is below the last one before it
pub ends-below : (done : Run) (x : Stamped) (rest : Run) → IsSortedBy (λ (a b : Stamped). is_lt (key_cmp a.key b.key)) (done ++ x ∷ rest) → IfSome (last_or None done) (λ (s : Stamped). is_lt (key_cmp x.key s.key) ≡ false)
ends-below [] x rest sorted = tt
ends-below (y ∷ []) x rest sorted = sorted 0 x (omega arith) (omega arith)
ends-below (y ∷ z ∷ more) x rest sorted = ends-below (z ∷ more) x rest (sorted-tail y (z ∷ more ++ x ∷ rest) sorted)

-- rows that neither is below the other of tie
tie-is : (key : Values) (s : Stamped) → (not (is_lt (key_cmp key s.key)) && not (is_lt (key_cmp s.key key))) ≡ eq_by_cmp key_cmp key s.key
tie-is key s =
    ap (λ o. not (is_lt (key_cmp key s.key)) && not (is_lt o)) (key_total.antisymm s.key key)
    ∙ elim (key_cmp key s.key) as (λ o. (not (is_lt o) && not (is_lt (ordering_reverse o))) ≡ is_eq o) [ Less ↦ refl | Equal ↦ refl | Greater ↦ refl ]

-- a stable sort keeps the rows of each key in their order
pub of_key-sorted : (rows sorted : Run) (key : Values) → IsStableByKey (λ (s : Stamped). s.key) key_cmp rows sorted → of_key key sorted ≡ of_key key rows
of_key-sorted rows sorted key stable =
    let probe : Stamped = record { key = key; seq = 0; kind = Insert; row = [] } in
    sym (same sorted) ∙ stable probe ∙ same rows
  where
    same : (run : Run) → filter (λ (s : Stamped). not (is_lt (key_cmp key s.key)) && not (is_lt (key_cmp s.key key))) run ≡ of_key key run
    same run = λ i. filter (λ s. tie-is key s i) run
