-- What is found of the older runs.
use Rattle.std.proofs.Common.{◌≡◌, List, [], ◌∷◌, ◌++◌, Option, None, Some, length, map, option_to_list, refl, sym, ap, subst, ◌∙◌, inl, inr}
use Rattle.std.specs.Ordering.{ordering_reverse}
use Rattle.std.specs.declared.cmp.Ordering.TheVariants.{Less, Equal, Greater}
use Rattle.pm_base.proofs.Laws.{AllByRecursion-append, AllByRecursion-parts}
use Rattle.pm_values.specs.Order.{Values, key_cmp, key_total}
use Rattle.pm_values.specs.declared.record.Stamped.{Stamped}
use Rattle.pm_values.proofs.Lemmas.{key_cmp-IsAntisymmetric}
use Rattle.pm_row_slots.specs.Slot.{OrdersFirst}
use Rattle.pm_engine.specs.Covers.{Run, row_of, stored_rows}
use Rattle.pm_engine.specs.Meaning.{Meaning, SpeaksFor}
use Rattle.pm_engine.specs.Stored.{as_row}
use Rattle.pm_engine.specs.declared.stored.Stored.{Stored}
use Rattle.pm_merge.specs.Merge.{AreStored}
use Rattle.pm_merge.specs.Merging.{GaveFirst, GivesAll, GivesLeast, GivesOne, HaveNoRefusal, HaveNoRow, rest_past, runs_in}
use Rattle.pm_merge.specs.Source.{Rest}
use Rattle.pm_compaction_log.specs.Older.{AreAbove, AreBelow, FindsOlder}
use Rattle.pm_compaction_log.specs.Told.{HasStored}
use Rattle.pm_compaction_log.proofs.GivenLemmas.{are-rising, given-others, given-speaks, gives-append, none-before, none-left}

pub below-append : (key : Values) (xs ys : Run) → AreBelow key xs → AreBelow key ys → AreBelow key (xs ++ ys)
below-append key xs ys one two = AllByRecursion-append (λ (x : Stamped). key_cmp x.key key ≡ Less) xs ys one two

pub below-more : (low high : Values) (rows : Run) → key_cmp low high ≡ Less → AreBelow low rows → AreBelow high rows
below-more low high [] less all = tt
below-more low high (x ∷ rows) less all = (key_total.trans x.key low high all.0 less, below-more low high rows less all.1)

module _ (m : Meaning) (key : Values) where
  -- what is found is the stored row of the key's rows
  pub finds-stored : (rests : List Rest) (older : Option Stored) (left : List Rest) → AreStored m (runs_in rests) → FindsOlder m key rests older left → HasStored m key older (stored_rows key (runs_in rests))
  finds-stored rests None left stored (passed, below, gave, inl none) = sym (given-others m key rests left passed gave below) ∙ none-left key left none
  finds-stored rests None left stored (passed, below, gave, inr (x, later, least, less)) =
      sym (given-others m key rests left passed gave below) ∙ none-before m key rests left later passed x (are-rising rests stored.rising) gave least less
  finds-stored rests (Some v) left stored (passed, below, x, mid, gave, least, same, is) =
      subst (λ (w : Stored). SpeaksFor m key (as_row w) (stored_rows key (runs_in rests))) (sym is)
      (subst (λ k. SpeaksFor m k (row_of x) (stored_rows k (runs_in rests))) same (given-speaks m rests mid left passed x stored gave least))

  -- from the rests at first
  pub finds-later : (first rests : List Rest) (run : Run) (older : Option Stored) (left : List Rest) → GivesAll m first run rests → AreBelow key run → FindsOlder m key rests older left
      → FindsOlder m key first older left
  finds-later first rests run None left gave low (passed, below, more, above) = (run ++ passed, below-append key run passed low below, gives-append m first rests left run passed gave more, above)
  finds-later first rests run (Some v) left gave low (passed, below, x, mid, more, least, same, is) =
      (run ++ passed, below-append key run passed low below, x, mid, gives-append m first rests mid run passed gave more, least, same, is)

  -- what was given then, all of it below each key above this one
  pub finds-given : (first rests : List Rest) (run : Run) (older : Option Stored) (left : List Rest) → GivesAll m first run rests → FindsOlder m key rests older left
      → (all : Run) × GivesAll m first all left × ((k : Values) → key_cmp key k ≡ Less → AreBelow k run → AreBelow k all)
  finds-given first rests run None left gave (passed, below, more, above) =
      (run ++ passed, gives-append m first rests left run passed gave more, λ k less low. below-append k run passed low (below-more key k passed less below))
  finds-given first rests run (Some v) left gave (passed, below, x, mid, more, least, same, is) = (
    run ++ (passed ++ x ∷ []),
    gives-append m first rests left run (passed ++ x ∷ []) gave (gives-append m rests mid left passed (x ∷ []) more (left, least, refl)),
    λ k less low. below-append k run (passed ++ x ∷ []) low
        (below-append k passed (x ∷ []) (below-more key k passed less below) (subst (λ q. key_cmp q k ≡ Less) (sym same) less, tt)),
  )

-- ---- older rests beside the newer rows that were given

-- rests that come after rows that were given, none of them with a key above all of these newer rows
pub record AreBeside (m : Meaning) (first : List Rest) (run : Run) (rests : List Rest) : Type 0 where
  pub passed : Run
  pub gave : GivesAll m first passed rests
  pub low : (key : Values) → AreBelow key run → AreBelow key passed

past-judged : (key : Values) (rests : List Rest) → HaveNoRefusal rests → HaveNoRefusal (map (rest_past key) rests)
past-judged key [] judged = tt
past-judged key (r ∷ rests) judged = (judged.0, past-judged key rests judged.1)

-- none of what is left has a refusal where none had one
pub given-judged : (m : Meaning) (first left : List Rest) (run : Run) → GivesAll m first run left → HaveNoRefusal first → HaveNoRefusal left
given-judged m first left [] gave judged = subst HaveNoRefusal (sym gave) judged
given-judged m first left (y ∷ run) (mid, least, gave) judged = given-judged m mid left run gave (subst HaveNoRefusal (sym least.left) (past-judged y.key first judged))

module _ (m : Meaning) (first : List Rest) where
  pub beside-none : AreBeside m first [] first
  beside-none = record { passed = []; gave = refl; low = λ key below. tt }

  pub beside-judged : (run : Run) (rests : List Rest) → AreBeside m first run rests → HaveNoRefusal first → HaveNoRefusal rests
  beside-judged run rests are judged = given-judged m first rests are.passed are.gave judged

  -- what is found of a key above the newer rows is what the first rests have of it
  pub beside-finds : (key : Values) (run : Run) (rests : List Rest) (older : Option Stored) (left : List Rest) → AreBeside m first run rests → AreBelow key run
      → FindsOlder m key rests older left → FindsOlder m key first older left
  beside-finds key run rests older left are below finds = finds-later m key first rests are.passed older left are.gave (are.low key below) finds

  -- then what is left is beside this row, too
  pub beside-more : (run : Run) (x : Stamped) (rests : List Rest) (older : Option Stored) (left : List Rest) → AreBeside m first run rests → FindsOlder m x.key rests older left
      → AreBeside m first (run ++ x ∷ []) left
  beside-more run x rests older left are finds =
      let all = finds-given m x.key first rests are.passed older left are.gave finds in record {
        passed = all.0;
        gave = all.1;
        low = λ key below.
            let parts = AllByRecursion-parts (λ (y : Stamped). key_cmp y.key key ≡ Less) run (x ∷ []) below in
            all.2 key parts.1.0 (are.low key parts.0);
      }

-- ---- the first row that is left, beside the newer one

-- where none stands first, the next row that is given stands there then
pub first-stands : (m : Meaning) (HasRest : List Rest → Type 0) (rests : List Rest) (next : Option Stamped) (left : List Rest) → GivesOne m rests next left → HasRest left
    → GaveFirst m next HasRest rests × (next ≡ None → HaveNoRow rests)
first-stands m HasRest rests None left one has = (subst HasRest one.2 has, λ e. one.0)
first-stands m HasRest rests (Some y) left one has = ((left, one, has), λ e. cc)

module _ (m : Meaning) (HasRest : List Rest → Type 0) (rests : List Rest) (x : Stamped) where
  -- it is given, in this order to the newer one
  pub passes : (first : Option Stamped) → OrdersFirst first (Some x) (Some Less) → GaveFirst m first HasRest rests
      → (y : Stamped) × (later : List Rest) × (first ≡ Some y) × GivesLeast m rests y later × HasRest later × (key_cmp y.key x.key ≡ Less)
  passes (Some y) order (later, least, has) = (y, later, refl, least, has, (let o = order in cc))
  passes None order gave = (let o = order in cc)

  pub meets : (first : Option Stamped) → OrdersFirst first (Some x) (Some Equal) → GaveFirst m first HasRest rests
      → (y : Stamped) × (later : List Rest) × (first ≡ Some y) × GivesLeast m rests y later × HasRest later × (y.key ≡ x.key)
  meets (Some y) order (later, least, has) = (y, later, refl, least, has, key_cmp-IsAntisymmetric y.key x.key (let o = order in cc))
  meets None order gave = (let o = order in cc)

  pub stands-above : (first : Option Stamped) → OrdersFirst first (Some x) (Some Greater) → GaveFirst m first HasRest rests → (first ≡ None → HaveNoRow rests)
      → AreAbove m x.key rests
  stands-above (Some y) order (later, least, has) over =
      let above : key_cmp y.key x.key ≡ Greater = (let o = order in cc) in
      inr (y, later, least, key_total.antisymm x.key y.key ∙ ap ordering_reverse above)
  stands-above None order gave over = inl (over refl)

pub stands-beside : (first : Option Stamped) (x : Stamped) → OrdersFirst first (Some x) None → ⊥
stands-beside (Some y) x order = (let o = order in cc)
stands-beside None x order = (let o = order in cc)

-- a row with a lower key stands there
pub one-stands : (first other : Option Stamped) → OrdersFirst first other (Some Less) → length (option_to_list first) ≡ 1
one-stands (Some y) other order = refl
one-stands None (Some x) order = (let o = order in cc)
one-stands None None order = (let o = order in cc)
