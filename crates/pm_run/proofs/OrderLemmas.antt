-- Rows in order, and parts of them.
use Rattle.std.proofs.Common.{◌≡◌, Bool, true, false, ◌&&◌, List, [], ◌∷◌, ◌++◌, Option, None, Some, refl, ap}
use Rattle.std.specs.List.{AllByRecursion}
use Rattle.std.specs.List.Sorted.{IsStrictlySortedBy}
use Rattle.std.specs.Ordering.{is_lt}
use Rattle.std.specs.declared.cmp.Ordering.{Ordering}
use Rattle.std.specs.declared.cmp.Ordering.TheVariants.{Less, Equal, Greater}
use Rattle.std.proofs.lemmas.Bool.{and_parts}
use Rattle.pm_values.specs.Order.{Values, key_cmp, key_total}
use Rattle.pm_values.specs.declared.record.Stamped.{Stamped}
use Rattle.pm_run.specs.Order.{are_in_order, keys_of, may_follow}
use Rattle.pm_run.specs.Writing.{AreRising}

pub both : (a b : Bool) → a ≡ true → b ≡ true → (a && b) ≡ true
both a b p q = rw (p, q) refl

rising_after : (last : Values) (rows : List Stamped) → AllByRecursion (λ (y : Values). key_cmp last y ≡ Less) (keys_of rows) → IsStrictlySortedBy key_cmp (keys_of rows)
    → are_in_order false (Some last) rows ≡ true
unfolding IsStrictlySortedBy
rising_after last [] above rising = refl
rising_after last (x ∷ rows) above rising =
    both (may_follow false (Some last) x.key) (are_in_order false (Some x.key) rows) (ap is_lt above.0) (rising_after x.key rows rising.0 rising.1)

-- rows whose keys rise are in the order of a data file
pub rising_in_order : (rows : List Stamped) → AreRising rows → are_in_order false None rows ≡ true
unfolding IsStrictlySortedBy
rising_in_order [] rising = refl
rising_in_order (x ∷ rows) rising = rising_after x.key rows rising.0 rising.1

pub from_none : (changes : Bool) (before : Option Values) (rows : List Stamped) → are_in_order changes before rows ≡ true → are_in_order changes None rows ≡ true
from_none changes before [] e = refl
from_none changes before (x ∷ rows) e = (and_parts (may_follow changes before x.key) (are_in_order changes (Some x.key) rows) e).1

-- of rows in order the first and the later ones are
pub in_order-parts : (changes : Bool) (before : Option Values) (xs ys : List Stamped) → are_in_order changes before (xs ++ ys) ≡ true
    → (are_in_order changes before xs ≡ true) × (are_in_order changes None ys ≡ true)
in_order-parts changes before [] ys e = (refl, from_none changes before ys e)
in_order-parts changes before (x ∷ xs) ys e =
    let parts = and_parts (may_follow changes before x.key) (are_in_order changes (Some x.key) (xs ++ ys)) e in
    let later = in_order-parts changes (Some x.key) xs ys parts.1 in
    (both (may_follow changes before x.key) (are_in_order changes (Some x.key) xs) parts.0 later.0, later.1)

-- a row that follows, and those after it
pub in_order-first : (changes : Bool) (before : Option Values) (x : Stamped) (rows : List Stamped) → are_in_order changes before (x ∷ rows) ≡ true
    → (may_follow changes before x.key ≡ true) × (are_in_order changes (Some x.key) rows ≡ true)
in_order-first changes before x rows e = and_parts (may_follow changes before x.key) (are_in_order changes (Some x.key) rows) e

-- ---- rows in order rise

is_less : (r : Ordering) → is_lt r ≡ true → r ≡ Less
is_less Less e = refl
is_less Equal e = let no : false ≡ true = e in cc
is_less Greater e = let no : false ≡ true = e in cc

-- what is below the first of rising keys is below all
below_all : (last key : Values) (keys : List Values) → key_cmp last key ≡ Less → AllByRecursion (λ (y : Values). key_cmp key y ≡ Less) keys → AllByRecursion (λ (y : Values). key_cmp last y ≡ Less) keys
below_all last key [] less above = tt
below_all last key (y ∷ keys) less above = (key_total.trans last key y less above.0, below_all last key keys less above.1)

record RisesAfter (last : Values) (rows : List Stamped) : Type 0 where
  above : AllByRecursion (λ (y : Values). key_cmp last y ≡ Less) (keys_of rows)
  rising : AreRising rows

rises_after : (last : Values) (rows : List Stamped) → are_in_order false (Some last) rows ≡ true → RisesAfter last rows
unfolding IsStrictlySortedBy
rises_after last [] e = record { above = tt; rising = tt }
rises_after last (x ∷ rows) e =
    let parts = and_parts (may_follow false (Some last) x.key) (are_in_order false (Some x.key) rows) e in
    let less = is_less (key_cmp last x.key) parts.0 in
    let later = rises_after x.key rows parts.1 in
    record { above = (less, below_all last x.key (keys_of rows) less later.above); rising = (later.above, later.rising) }

pub in_order_rising : (rows : List Stamped) → are_in_order false None rows ≡ true → AreRising rows
unfolding IsStrictlySortedBy
in_order_rising [] e = tt
in_order_rising (x ∷ rows) e =
    let parts = and_parts (may_follow false None x.key) (are_in_order false (Some x.key) rows) e in
    let later = rises_after x.key rows parts.1 in
    (later.above, later.rising)
