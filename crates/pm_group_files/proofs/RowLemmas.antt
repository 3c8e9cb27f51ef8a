-- Rows that rise, runs of them, and groups of runs.
use Rattle.std.proofs.Common.{◌≡◌, ℕ, Bool, true, false, ◌&&◌, List, [], ◌∷◌, ◌++◌, reverse, Option, None, Some, refl, sym, ap, ◌∙◌, subst}
use Rattle.std.specs.List.{All, AllByRecursion}
use Rattle.std.specs.List.Sorted.{IsStrictlySortedBy}
use Rattle.std.specs.Ordering.{is_lt}
use Rattle.std.specs.declared.cmp.Ordering.{Ordering}
use Rattle.std.specs.declared.cmp.Ordering.TheVariants.{Less, Equal, Greater}
use Rattle.std.proofs.lemmas.Bool.{and_parts}
use Rattle.std.proofs.lemmas.List.{map-append}
use mathlib.Core.List.{reverse-cons}
use Rattle.std.proofs.lemmas.List.Elements.{All-from_recursion, All-push, recursion_from_All}
use Rattle.pm_values.specs.Order.{Values, key_cmp, key_total}
use Rattle.pm_values.specs.declared.record.Stamped.{Stamped}
use Rattle.pm_engine.specs.Covers.{IsRising, Run}
use Rattle.pm_run.specs.Order.{are_in_order, keys_of, last_key, may_follow}
use Rattle.pm_schema.specs.declared.schema.TableSchema.{TableSchema}
use Rattle.pm_scan_rows.specs.Group.{GroupRead, read_of, reads_of, runs_read}
use Rattle.pm_scan_rows.specs.declared.read_group.ReadGroup.{ReadGroup}
use Rattle.pm_group_files.specs.Collected.{Closes, Collected, HasMore, TakesRows}
use Rattle.pm_group_files.specs.Collected.{collected_of, group_closed, with_rows}
use Rattle.pm_group_files.specs.declared.job.Job.{Job}
use Rattle.pm_group_files.proofs.ReadLemmas.{all-parts}
use Rattle.pm_group_files.proofs.TakenLemmas.{rising-in_order}

-- ---- rows in order rise

both : (a b : Bool) → a ≡ true → b ≡ true → (a && b) ≡ true
both a b p q = rw (p, q) refl

is_less : (r : Ordering) → is_lt r ≡ true → r ≡ Less
is_less Less e = refl
is_less Equal e = let no : false ≡ true = e in cc
is_less Greater e = let no : false ≡ true = e in cc

-- what is below the first of rising keys is below all
below_all : (last key : Values) (keys : List Values) → key_cmp last key ≡ Less → AllByRecursion (λ (y : Values). key_cmp key y ≡ Less) keys
    → AllByRecursion (λ (y : Values). key_cmp last y ≡ Less) keys
below_all last key [] less above = tt
below_all last key (y ∷ keys) less above = (key_total.trans last key y less above.0, below_all last key keys less above.1)

record RisesAfter (last : Values) (rows : List Stamped) : Type 0 where
  above : AllByRecursion (λ (y : Values). key_cmp last y ≡ Less) (keys_of rows)
  rising : IsRising rows

rises_after : (last : Values) (rows : List Stamped) → are_in_order false (Some last) rows ≡ true → RisesAfter last rows
unfolding IsStrictlySortedBy
rises_after last [] e = record { above = tt; rising = tt }
rises_after last (x ∷ rows) e =
    let parts = and_parts (may_follow false (Some last) x.key) (are_in_order false (Some x.key) rows) e in
    let less = is_less (key_cmp last x.key) parts.0 in
    let later = rises_after x.key rows parts.1 in
    record { above = (less, below_all last x.key (keys_of rows) less later.above); rising = (later.above, later.rising) }

in_order_rising : (rows : List Stamped) → are_in_order false None rows ≡ true → IsRising rows
unfolding IsStrictlySortedBy
in_order_rising [] e = tt
in_order_rising (x ∷ rows) e =
    let parts = and_parts (may_follow false None x.key) (are_in_order false (Some x.key) rows) e in
    let later = rises_after x.key rows parts.1 in
    (later.above, later.rising)

in_order_joined : (before : Option Values) (xs ys : List Stamped) → are_in_order false before xs ≡ true → are_in_order false (last_key before xs) ys ≡ true
    → are_in_order false before (xs ++ ys) ≡ true
in_order_joined before [] ys first later = later
in_order_joined before (x ∷ xs) ys first later =
    let parts = and_parts (may_follow false before x.key) (are_in_order false (Some x.key) xs) first in
    both (may_follow false before x.key) (are_in_order false (Some x.key) (xs ++ ys)) parts.0 (in_order_joined (Some x.key) xs ys parts.1 later)

-- rows in order after those of a run rise with them
pub rising_joined : (xs ys : Run) → IsRising xs → are_in_order false (last_key None xs) ys ≡ true → IsRising (xs ++ ys)
rising_joined xs ys rising order = in_order_rising (xs ++ ys) (in_order_joined None xs ys (rising-in_order xs rising) order)

pub rising_none : IsRising []
unfolding IsStrictlySortedBy
rising_none = tt

-- ---- runs

-- one run more
pub rising_push : (runs new : List Run) (run : Run) → new ≡ runs ++ run ∷ [] → All IsRising runs → IsRising run → All IsRising new
rising_push runs new run is all rising = subst (All IsRising) (sym is) (All-push IsRising runs run all rising)

all_reverse : (runs : List Run) → AllByRecursion IsRising runs → All IsRising (reverse runs)
all_reverse [] all = All-from_recursion IsRising [] tt
all_reverse (run ∷ runs) all =
    subst (All IsRising) (sym (reverse-cons run runs)) (All-push IsRising (reverse runs) run (all_reverse runs all.1) all.0)

pub rising_reversed : (runs : List Run) → All IsRising runs → All IsRising (reverse runs)
rising_reversed runs all = all_reverse runs (recursion_from_All IsRising runs all)

pub none_rising : All IsRising []
none_rising = All-from_recursion IsRising [] tt

-- ---- groups

-- one group more
groups_push : (groups new : List ReadGroup) (x : ReadGroup) → new ≡ groups ++ x ∷ [] → reads_of new ≡ reads_of groups ++ read_of x ∷ []
groups_push groups new x is = ap reads_of is ∙ map-append read_of groups (x ∷ [])

runs_push : (groups : List GroupRead) (x : GroupRead) → runs_read (groups ++ x ∷ []) ≡ runs_read groups ++ x.runs ∷ []
runs_push groups x = map-append (λ (x : GroupRead). x.runs) groups (x ∷ [])

pub all_rising_push : (groups new : List ReadGroup) (x : ReadGroup) → new ≡ groups ++ x ∷ [] → All (All IsRising) (runs_read (reads_of groups)) → All IsRising x.runs.items
    → All (All IsRising) (runs_read (reads_of new))
all_rising_push groups new x is all rising =
    subst (All (All IsRising)) (sym (ap runs_read (groups_push groups new x is) ∙ runs_push (reads_of groups) (read_of x)))
    (All-push (All IsRising) (runs_read (reads_of groups)) x.runs.items all rising)

pub no_groups : (groups : List ReadGroup) → groups ≡ [] → All (All IsRising) (runs_read (reads_of groups))
no_groups groups none = subst (λ (groups : List ReadGroup). All (All IsRising) (runs_read (reads_of groups))) (sym none) (All-from_recursion (All IsRising) [] tt)

-- once the runs of the group in hand stand with the oldest first, and it is put to the others
pub group_put : (old : Collected) (s : TableSchema) (groups after : List ReadGroup) (runs left : List Run) (kept files : List (List ℕ)) (rows : Run) (x : ReadGroup)
    → old ≡ collected_of s (reads_of groups) runs kept rows → x.runs.items ≡ reverse runs → x.kept.items ≡ kept → after ≡ groups ++ x ∷ [] → left ≡ [] → files ≡ []
    → collected_of s (reads_of after) left files rows ≡ group_closed old
group_put old s groups after runs left kept files rows x is turned same pushed emptied none =
    ap (λ (all : List GroupRead). collected_of s all left files rows) (groups_push groups after x pushed)
    ∙ ap (λ (own : List Run). collected_of s (reads_of groups ++ record { runs = own; kept = x.kept.items } ∷ []) left files rows) turned
    ∙ ap (λ (own : List (List ℕ)). collected_of s (reads_of groups ++ record { runs = reverse runs; kept = own } ∷ []) left files rows) same
    ∙ ap (λ (left : List Run). collected_of s (reads_of groups ++ record { runs = reverse runs; kept = kept } ∷ []) left files rows) emptied
    ∙ ap (λ (files : List (List ℕ)). collected_of s (reads_of groups ++ record { runs = reverse runs; kept = kept } ∷ []) [] files rows) none
    ∙ ap group_closed (sym is)

-- the runs of the first of groups rise where those of all do
pub rising_of : (all later : List (List Run)) (seen own : Collected) → seen ≡ own → all ++ later ≡ runs_read own.groups → All (All IsRising) (runs_read seen.groups) → All (All IsRising) all
rising_of all later seen own is joined rising =
    let whole : All (All IsRising) (all ++ later) = subst (All (All IsRising)) (ap (λ (c : Collected). runs_read c.groups) is ∙ sym joined) rising in
    All-from_recursion (All IsRising) all (all-parts (All IsRising) all later (recursion_from_All (All IsRising) (all ++ later) whole)).0

-- ---- a file is taken

-- once its rows were put to those in hand, and what ends with it was closed
pub rows_from : (job : Job) (bytes : List ℕ) (old new seen : Collected) (before items : Run) → seen ≡ old → before ≡ seen.rows
    → ((more : List Stamped) × HasMore seen.schema job bytes before more × (items ≡ before ++ more))
    → Closes job.ends (with_rows items seen) new → TakesRows job bytes old new
rows_from job bytes old new seen before items is same (more, has, joined) closes =
    subst (λ (old : Collected). TakesRows job bytes old new) is (
      more,
      subst (λ (b : Run). HasMore seen.schema job bytes b more) same has,
      subst (λ (rows : Run). Closes job.ends (with_rows rows seen) new) (joined ∙ ap (λ (b : Run). b ++ more) same) closes,
    )
