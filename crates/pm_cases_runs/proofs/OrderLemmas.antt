-- Rows in the order of a data file rise.
use Rattle.std.proofs.Common.{◌≡◌, true, false, List, [], ◌∷◌, ◌++◌, None, Some, refl, sym, ap, ◌∙◌, subst}
use Rattle.std.specs.List.{AllByRecursion}
use Rattle.std.specs.List.Sorted.{IsStrictlySortedBy}
use Rattle.std.specs.Ordering.{is_lt}
use Rattle.std.specs.declared.cmp.Ordering.{Ordering}
use Rattle.std.specs.declared.cmp.Ordering.TheVariants.{Less, Equal, Greater}
use Rattle.std.proofs.lemmas.Bool.{and_parts}
use Rattle.pm_values.specs.Order.{Values, key_cmp, key_total}
use Rattle.pm_values.specs.declared.record.Stamped.{Stamped}
use Rattle.pm_run.specs.Order.{are_in_order, keys_of, last_key, may_follow}
use Rattle.pm_run.specs.Writing.{AreRising}

is_less : (r : Ordering) → is_lt r ≡ true → r ≡ Less
is_less Less e = refl
is_less Equal e = let no : false ≡ true = e in cc
is_less Greater e = let no : false ≡ true = e in cc

-- what is below the first of rising keys is below all
below_all : (last key : Values) (keys : List Values) → key_cmp last key ≡ Less → AllByRecursion (λ (y : Values). key_cmp key y ≡ Less) keys → AllByRecursion (λ (y : Values). key_cmp last y ≡ Less) keys
below_all last key [] less above = tt
below_all last key (y ∷ keys) less above = (key_total.trans last key y less above.0, below_all last key keys less above.1)

record RisesAfter (last : Values) (rows : List Stamped) : Type 0 where
  above : AllByRecursion (λ (y : Values). key_cmp last y ≡ Less) (keys_of rows)
  rising : AreRising rows

rises_after : (last : Values) (rows : List Stamped) → are_in_order false (Some last) rows ≡ true → RisesAfter last rows
unfolding IsStrictlySortedBy
rises_after last [] e = record { above = tt; rising = tt }
rises_after last (x ∷ rows) e =
    let parts = and_parts (may_follow false (Some last) x.key) (are_in_order false (Some x.key) rows) e in
    let less = is_less (key_cmp last x.key) parts.0 in
    let later = rises_after x.key rows parts.1 in
    record { above = (less, below_all last x.key (keys_of rows) less later.above); rising = (later.above, later.rising) }

pub in_order_rising : (rows : List Stamped) → are_in_order false None rows ≡ true → AreRising rows
unfolding IsStrictlySortedBy
in_order_rising [] e = tt
in_order_rising (x ∷ rows) e =
    let parts = and_parts (may_follow false None x.key) (are_in_order false (Some x.key) rows) e in
    let later = rises_after x.key rows parts.1 in
    (later.above, later.rising)

-- rows in order that stand after none rise
pub rising_first : (before after more : List Stamped) → before ≡ [] → after ≡ before ++ more → are_in_order false (last_key None before) more ≡ true → AreRising after
rising_first before after more none is order =
    subst AreRising (sym (is ∙ ap (λ rows. rows ++ more) none))
    (in_order_rising more (subst (λ rows. are_in_order false (last_key None rows) more ≡ true) none order))
