-- What two sides that are merged give, by what each of them gives.
use Rattle.std.proofs.Common.{◌≡◌, ◌≤◌, ◌+◌, ℕ, List, [], ◌∷◌, ◌++◌, map, take, drop, length, arith, Option, Some, None, Bool, true, false, cond, refl, sym, ap, subst, ◌∙◌, append-nil, inl, inr}
use Rattle.std.specs.Prelude.{option_to_list, is_none, ◌≢◌, IfErr, OnOk, Result, Ok, Err, ⊤}
use Rattle.std.specs.List.{AllByRecursion}
use Rattle.std.specs.Option.{option_map, option_or}
use Rattle.std.specs.Ordering.{eq_by_cmp, is_eq, ordering_reverse}
use Rattle.std.specs.declared.cmp.Ordering.TheVariants.{Less, Equal, Greater}
use Rattle.std.proofs.lemmas.Grind.{flat_map-append}
use Rattle.std.proofs.lemmas.List.{map-append, take-append-drop}
use Rattle.pm_base.proofs.Laws.{AllByRecursion-append}
use Rattle.pm_values.specs.Order.{Values, key_cmp, key_total}
use Rattle.pm_values.specs.declared.record.Stamped.{Stamped}
use Rattle.pm_values.specs.declared.refusal.Refusal.{Refusal}
use Rattle.pm_values.specs.declared.refusal.Refusal.TheVariants.{Memory}
use Rattle.pm_engine.specs.Covers.{Run}
use Rattle.pm_engine.specs.Meaning.{Meaning}
use Rattle.pm_engine.specs.Needed.{IsNeeded, raised}
use Rattle.pm_engine.specs.Reducing.{IsCombined}
use Rattle.pm_engine.specs.declared.needed.Needed.TheVariants as needed
use Rattle.pm_engine.proofs.Rising.{apart, tied, ties_itself}
use Rattle.pm_merge.specs.Merging.{AreCombined, BeginsFrom, Chooses, CombineFirst, GaveFirst, GivesLeast, GivesOne, HaveNoRow, IsBelow, alone, both_go, first_of_key, first_refusal, joined, newer_goes, none_goes, older_goes, refusal_now, rest_past, rests_of, rows_past, runs_in}
use Rattle.pm_row_slots.specs.Slot.{OrdersFirst, number_of}
use Rattle.pm_merge.specs.Source.{Fills, HandsOut, Rest}
use Rattle.pm_merge.proofs.GivenLemmas.{AllFrom, firsts, past}

-- ---- runs as rests

pub runs_back : (runs : List Run) → runs_in (rests_of runs) ≡ runs
runs_back [] = refl
runs_back (run ∷ runs) = ap (λ (rs : List Run). run ∷ rs) (runs_back runs)

-- the rests of two halves
pub rests_halved : {A B : Type 0} (f : A → B) (n : ℕ) (xs first second : List A) → first ≡ take n xs → second ≡ drop n xs → map f xs ≡ map f first ++ map f second
rests_halved f n xs first second e d =
    ap (map f) (sym (take-append-drop n xs)) ∙ map-append f (take n xs) (drop n xs) ∙ ap (λ ys. map f ys ++ map f (drop n xs)) (sym e) ∙ ap (λ ys. map f first ++ map f ys) (sym d)

pub gave_none : (m : Meaning) (first : Option Stamped) (AreLeft : List Rest → Type 0) (rests : List Rest) → first ≡ None → AreLeft rests → GaveFirst m first AreLeft rests
gave_none m first AreLeft rests none are = subst (λ f. GaveFirst m f AreLeft rests) (sym none) are

-- ---- refusals

or_regroup : {A : Type 0} (a b c : Option A) → option_or (option_or a b) c ≡ option_or a (option_or b c)
or_regroup None b c = refl
or_regroup (Some x) b c = refl

refusal-append : (xs ys : List Rest) → first_refusal (xs ++ ys) ≡ option_or (first_refusal xs) (first_refusal ys)
refusal-append [] ys = refl
refusal-append (r ∷ rests) ys =
    ap (option_or (refusal_now r.rows r.refusal)) (refusal-append rests ys) ∙ sym (or_regroup (refusal_now r.rows r.refusal) (first_refusal rests) (first_refusal ys))

pub refuses_after : (xs ys : List Rest) (known : Option Refusal) → first_refusal xs ≡ None → first_refusal ys ≡ known → first_refusal (xs ++ ys) ≡ known
refuses_after xs ys known none is = refusal-append xs ys ∙ ap (λ a. option_or a (first_refusal ys)) none ∙ is

pub refuses_first : (xs ys : List Rest) (e : Refusal) → first_refusal xs ≡ Some e → first_refusal (xs ++ ys) ≡ Some e
refuses_first xs ys e is = refusal-append xs ys ∙ ap (λ a. option_or a (first_refusal ys)) is

-- ---- rests whose first rows are above a key

abbrev FirstAbove : Values → Run → Type 0
FirstAbove key [] = ⊤
FirstAbove key (s ∷ rows) = key_cmp key s.key ≡ Less

module _ (key : Values) where
  abbrev AllAbove : List Rest → Type 0
  AllAbove rests = AllByRecursion (λ (r : Rest). FirstAbove key r.rows) rests

  first_none : (rows : Run) → FirstAbove key rows → first_of_key key rows ≡ []
  first_none [] above = refl
  first_none (s ∷ rows) above = ap (λ b. cond b (s ∷ []) []) (apart key s.key above)

  past_none : (rows : Run) → FirstAbove key rows → rows_past key rows ≡ rows
  past_none [] above = refl
  past_none (s ∷ rows) above = ap (λ b. cond b rows (s ∷ rows)) (apart key s.key above)

  from_above : (rows : Run) → FirstAbove key rows → BeginsFrom key rows
  from_above [] above = tt
  from_above (s ∷ rows) above = inr above

  no_firsts : (rests : List Rest) → AllAbove rests → firsts key rests ≡ []
  no_firsts [] above = refl
  no_firsts (r ∷ rests) above = ap (λ (xs : Run). xs ++ firsts key rests) (first_none r.rows above.0) ∙ no_firsts rests above.1

  all_stay : (rests : List Rest) → AllAbove rests → past key rests ≡ rests
  all_stay [] above = refl
  all_stay (r ∷ rests) above =
      let rows = past_none r.rows above.0 in
      let later = all_stay rests above.1 in
      λ i. record { rows = rows i; refusal = r.refusal } ∷ later i

  all_from : (rests : List Rest) → AllAbove rests → AllFrom key rests
  all_from [] above = tt
  all_from (r ∷ rests) above = (from_above r.rows above.0, all_from rests above.1)

  -- a side whose first row is above, or that has none
  above_none : (rows : Run) → rows ≡ [] → FirstAbove key rows
  above_none [] none = tt
  above_none (s ∷ rows) none = cc

  above_from : (high : Values) (rows : Run) → key_cmp key high ≡ Less → BeginsFrom high rows → FirstAbove key rows
  above_from high [] less from = tt
  above_from high (s ∷ rows) less (inl same) = subst (λ k. key_cmp key k ≡ Less) same less
  above_from high (s ∷ rows) less (inr more) = key_total.trans key high s.key less more

  all_none : (rests : List Rest) → HaveNoRow rests → AllAbove rests
  all_none [] none = tt
  all_none (r ∷ rests) none = (above_none r.rows none.0, all_none rests none.1)

  all_higher : (high : Values) (rests : List Rest) → key_cmp key high ≡ Less → AllFrom high rests → AllAbove rests
  all_higher high [] less from = tt
  all_higher high (r ∷ rests) less from = (above_from high r.rows less from.0, all_higher high rests less from.1)

  side_above : (m : Meaning) (first : Option Stamped) (rests left : List Rest) → IsBelow key first → GivesOne m rests first left → AllAbove rests
  side_above m None rests left below gives = all_none rests gives.0
  side_above m (Some s) rests left below gives = all_higher s.key rests below gives.least

-- ---- what both sides give

pub is_known : (m : Meaning) (first : Option Stamped) (rests left : List Rest) → GivesOne m rests first left → first_refusal rests ≡ None
is_known m None rests left gives = gives.1
is_known m (Some s) rests left gives = gives.known

module _ (m : Meaning) (olders newers : List Rest) where
  both_known : (a b : Option Stamped) (lo ln : List Rest) → GivesOne m olders a lo → GivesOne m newers b ln → first_refusal (olders ++ newers) ≡ None
  both_known a b lo ln one two = refuses_after olders newers None (is_known m a olders lo one) (is_known m b newers ln two)

  both_from : (key : Values) → AllFrom key olders → AllFrom key newers → AllFrom key (olders ++ newers)
  both_from key one two = AllByRecursion-append (λ (r : Rest). BeginsFrom key r.rows) olders newers one two

  both_firsts : (key : Values) (one two : Run) → firsts key olders ≡ one → firsts key newers ≡ two → firsts key (olders ++ newers) ≡ one ++ two
  both_firsts key one two e f = flat_map-append (λ (r : Rest). first_of_key key r.rows) olders newers ∙ ap (λ (xs : Run). xs ++ firsts key newers) e ∙ ap (λ (xs : Run). one ++ xs) f

  both_past : (key : Values) (lo ln : List Rest) → lo ≡ past key olders → ln ≡ past key newers → lo ++ ln ≡ past key (olders ++ newers)
  both_past key lo ln e f = ap (λ (xs : List Rest). xs ++ ln) e ∙ ap (λ (xs : List Rest). past key olders ++ xs) f ∙ sym (map-append (rest_past key) olders newers)

  least_older : (a : Stamped) (b : Option Stamped) (lo ln : List Rest) → GivesLeast m olders a lo → GivesOne m newers b ln → IsBelow a.key b → GivesLeast m (olders ++ newers) a (lo ++ newers)
  least_older a b lo ln one two below =
      let above = side_above a.key m b newers ln below two in
      record {
        known = both_known (Some a) b lo ln one two;
        least = both_from a.key one.least (all_from a.key newers above);
        combined = subst (λ (rows : Run). AreCombined m rows a) (sym (both_firsts a.key (firsts a.key olders) [] refl (no_firsts a.key newers above) ∙ append-nil (firsts a.key olders))) one.combined;
        left = both_past a.key lo newers one.left (sym (all_stay a.key newers above));
      }

  least_newer : (a : Option Stamped) (b : Stamped) (lo ln : List Rest) → GivesOne m olders a lo → GivesLeast m newers b ln → IsBelow b.key a → GivesLeast m (olders ++ newers) b (olders ++ ln)
  least_newer a b lo ln one two below =
      let above = side_above b.key m a olders lo below one in
      record {
        known = both_known a (Some b) lo ln one two;
        least = both_from b.key (all_from b.key olders above) two.least;
        combined = subst (λ (rows : Run). AreCombined m rows b) (sym (both_firsts b.key [] (firsts b.key newers) (no_firsts b.key olders above) refl)) two.combined;
        left = both_past b.key olders ln (sym (all_stay b.key olders above)) two.left;
      }

  least_both : (a b s : Stamped) (lo ln : List Rest) → GivesLeast m olders a lo → GivesLeast m newers b ln → a.key ≡ b.key → IsCombined m a b s → GivesLeast m (olders ++ newers) s (lo ++ ln)
  least_both a b s lo ln one two same both =
      let of_one : a.key ≡ s.key = sym both.same_key in
      let of_two : b.key ≡ s.key = sym same ∙ of_one in
      record {
        known = both_known (Some a) (Some b) lo ln one two;
        least = both_from s.key (subst (λ k. AllFrom k olders) of_one one.least) (subst (λ k. AllFrom k newers) of_two two.least);
        combined =
            joined (firsts s.key (olders ++ newers)) (firsts s.key olders) (firsts s.key newers) a b s (both_firsts s.key (firsts s.key olders) (firsts s.key newers) refl refl)
            (subst (λ k. AreCombined m (firsts k olders) a) of_one one.combined) (subst (λ k. AreCombined m (firsts k newers) b) of_two two.combined) both;
        left = both_past s.key lo ln (subst (λ k. lo ≡ past k olders) of_one one.left) (subst (λ k. ln ≡ past k newers) of_two two.left);
      }

-- ---- a side whose first row is known, and the step of two

-- whatever rests are left of a side: its first row is known, or it has none
abbrev pub Knows : Meaning → Option Stamped → (List Rest → Type 0) → Option Stamped → (List Rest → Type 0) → Type 0
Knows m before Old first New = (rests : List Rest) → GaveFirst m before Old rests → (left : List Rest) × GivesOne m rests first left × New left

-- one whose first row stood in its place, and one that was asked for it
pub knows_same : (m : Meaning) (first : Option Stamped) (empty : Bool) (Old : List Rest → Type 0) → empty ≡ is_none first → empty ≡ false → Knows m first Old first Old
knows_same m None empty Old is some = cc
knows_same m (Some s) empty Old is some = λ rests gave. gave

pub none_stands : (first : Option Stamped) (empty : Bool) → empty ≡ is_none first → empty ≡ true → first ≡ None
none_stands None empty is none = refl
none_stands (Some s) empty is none = cc

ended : (m : Meaning) (first : Option Stamped) (rests left : List Rest) → GivesOne m rests first left → first ≡ None → HaveNoRow left × (first_refusal left ≡ None)
ended m None rests left gives none = subst (λ (rs : List Rest). HaveNoRow rs × (first_refusal rs ≡ None)) (sym gives.2) (gives.0, gives.1)
ended m (Some s) rests left gives none = cc

pub knows_after : (m : Meaning) (before first : Option Stamped) (Old Mid New : List Rest → Type 0) → before ≡ None → ((rests : List Rest) → Old rests → (left : List Rest) × GivesOne m rests first left × Mid left)
    → ((rests : List Rest) → (first ≡ None → HaveNoRow rests × (first_refusal rests ≡ None)) → Mid rests → New rests) → Knows m before Old first New
knows_after m before first Old Mid New none gives goes rests gave =
    let (left, one, is) = gives rests (subst (λ b. GaveFirst m b Old rests) none gave) in
    (left, one, goes left (ended m first rests left one) is)

-- what is left of two sides
abbrev pub TwoLeft : Meaning → Option Stamped → (List Rest → Type 0) → Option Stamped → (List Rest → Type 0) → List Rest → Type 0
TwoLeft m a Olders b Newers rests = (olders newers : List Rest) × (rests ≡ olders ++ newers) × GaveFirst m a Olders olders × GaveFirst m b Newers newers

stays_first : (m : Meaning) (b : Option Stamped) (rests left : List Rest) (New : List Rest → Type 0) → GivesOne m rests b left → New left → GaveFirst m b New rests
stays_first m None rests left New gives is = subst New gives.2 is
stays_first m (Some s) rests left New gives is = (left, gives, is)

module _ (m : Meaning) (OldOlder NewOlder OldNewer NewNewer : List Rest → Type 0) where
  split_step : (a b first a' b' : Option Stamped) → Chooses m a b first a' b' → (olders newers lo ln : List Rest) → GivesOne m olders a lo → NewOlder lo → GivesOne m newers b ln → NewNewer ln
      → (left : List Rest) × GivesOne m (olders ++ newers) first left × TwoLeft m a' NewOlder b' NewNewer left
  split_step _ _ _ _ _ (older_goes a b below) olders newers lo ln one left_one two left_two =
      (lo ++ newers, least_older m olders newers a b lo ln one two below, (lo, newers, refl, left_one, stays_first m b newers ln NewNewer two left_two))
  split_step _ _ _ _ _ (newer_goes b a below) olders newers lo ln one left_one two left_two =
      (olders ++ ln, least_newer m olders newers a b lo ln one two below, (olders, ln, refl, stays_first m a olders lo NewOlder one left_one, left_two))
  split_step _ _ _ _ _ (both_go a b s same both) olders newers lo ln one left_one two left_two =
      (lo ++ ln, least_both m olders newers a b s lo ln one two same both, (lo, ln, refl, left_one, left_two))
  split_step _ _ _ _ _ none_goes olders newers lo ln one left_one two left_two = (
    olders ++ newers,
    (AllByRecursion-append (λ (r : Rest). r.rows ≡ []) olders newers one.0 two.0, refuses_after olders newers None one.1 two.1, refl),
    (olders, newers, refl, subst NewOlder one.2 left_one, subst NewNewer two.2 left_two),
  )

  pub two_give : (fo fn a b first a' b' : Option Stamped) → Knows m fo OldOlder a NewOlder → Knows m fn OldNewer b NewNewer → Chooses m a b first a' b'
      → (rests : List Rest) → TwoLeft m fo OldOlder fn OldNewer rests → (left : List Rest) × GivesOne m rests first left × TwoLeft m a' NewOlder b' NewNewer left
  two_give fo fn a b first a' b' knows also chooses rests (olders, newers, is, one, two) =
      let (lo, gives_one, left_one) = knows olders one in
      let (ln, gives_two, left_two) = also newers two in
      let (left, gives, are) = split_step a b first a' b' chooses olders newers lo ln gives_one left_one gives_two left_two in
      (left, subst (λ (rs : List Rest). GivesOne m rs first left) (sym is) gives, are)

  -- a refusal of the older side, and of the newer one
  pub older_refuses : (fo fn : Option Stamped) (e : Refusal) → fo ≡ None → ((olders : List Rest) → OldOlder olders → first_refusal olders ≡ Some e)
      → (rests : List Rest) → TwoLeft m fo OldOlder fn OldNewer rests → first_refusal rests ≡ Some e
  older_refuses fo fn e none refuses rests (olders, newers, is, one, two) =
      ap first_refusal is ∙ refuses_first olders newers e (refuses olders (subst (λ f. GaveFirst m f OldOlder olders) none one))

  pub newer_refuses : (fo fn a : Option Stamped) (e : Refusal) → fn ≡ None → Knows m fo OldOlder a NewOlder → ((newers : List Rest) → OldNewer newers → first_refusal newers ≡ Some e)
      → (rests : List Rest) → TwoLeft m fo OldOlder fn OldNewer rests → first_refusal rests ≡ Some e
  newer_refuses fo fn a e none knows refuses rests (olders, newers, is, one, two) =
      let (lo, gives, left) = knows olders one in
      ap first_refusal is ∙ refuses_after olders newers (Some e) (is_known m a olders lo gives) (refuses newers (subst (λ f. GaveFirst m f OldNewer newers) none two))

-- ---- how many are left

abbrev pub many : Option Stamped → ℕ
many first = length (option_to_list first)

pub chooses_fewer : (m : Meaning) (a b first a' b' : Option Stamped) → Chooses m a b first a' b' → many first + (many a' + many b') ≤ many a + many b
chooses_fewer m _ _ _ _ _ (older_goes a b below) = omega arith
chooses_fewer m _ _ _ _ _ (newer_goes b a below) = omega arith
chooses_fewer m _ _ _ _ _ (both_go a b s same both) = omega arith
chooses_fewer m _ _ _ _ _ none_goes = omega arith

-- ---- which side goes

module _ (m : Meaning) where
  pub older_chosen : (a b : Option Stamped) → OrdersFirst a b (Some Less) → Chooses m a b a None b
  older_chosen (Some x) (Some y) order = older_goes x (Some y) less
    where
      less : key_cmp x.key y.key ≡ Less
      less = cc
  older_chosen (Some x) None order = older_goes x None tt
  older_chosen None (Some y) order = cc
  older_chosen None None order = cc

  pub newer_chosen : (a b : Option Stamped) → OrdersFirst a b (Some Greater) → Chooses m a b b a None
  newer_chosen (Some x) (Some y) order = newer_goes y (Some x) (key_total.antisymm y.key x.key ∙ ap ordering_reverse above)
    where
      above : key_cmp x.key y.key ≡ Greater
      above = cc
  newer_chosen None (Some y) order = newer_goes y None tt
  newer_chosen (Some x) None order = cc
  newer_chosen None None order = cc

  pub both_chosen : (a b s : Option Stamped) → OrdersFirst a b (Some Equal) → CombineFirst m a b s → Chooses m a b s None None
  both_chosen (Some x) (Some y) s order (z, is, both) = subst (λ t. Chooses m (Some x) (Some y) t None None) (sym is) (both_go x y z (tied x.key y.key (ap is_eq equal)) both)
    where
      equal : key_cmp x.key y.key ≡ Equal
      equal = cc
  both_chosen (Some x) None s order both = cc
  both_chosen None (Some y) s order both = cc
  both_chosen None None s order both = cc

  -- the row of one alone is needed
  pub older_kept : (a b s : Option Stamped) → OrdersFirst a b (Some Equal) → IsNeeded m needed.Older → s ≡ option_map (raised (number_of b)) a → CombineFirst m a b s
  older_kept (Some x) (Some y) s order is_needed is = (raised y.seq x, is, is_needed x y (tied x.key y.key (ap is_eq equal)))
    where
      equal : key_cmp x.key y.key ≡ Equal
      equal = cc
  older_kept (Some x) None s order is_needed is = cc
  older_kept None (Some y) s order is_needed is = cc
  older_kept None None s order is_needed is = cc

  pub newer_kept : (a b s : Option Stamped) → OrdersFirst a b (Some Equal) → IsNeeded m needed.Newer → s ≡ option_map (raised (number_of a)) b → CombineFirst m a b s
  newer_kept (Some x) (Some y) s order is_needed is = (raised x.seq y, is, is_needed x y (tied x.key y.key (ap is_eq equal)))
    where
      equal : key_cmp x.key y.key ≡ Equal
      equal = cc
  newer_kept (Some x) None s order is_needed is = cc
  newer_kept None (Some y) s order is_needed is = cc
  newer_kept None None s order is_needed is = cc

  pub none_chosen : (a b : Option Stamped) → OrdersFirst a b None → Chooses m a b None a b
  none_chosen None None order = none_goes
  none_chosen (Some x) (Some y) order = cc
  none_chosen (Some x) None order = cc
  none_chosen None (Some y) order = cc

-- ---- one source

no_refusal : (rows : Run) (refusal : Option Refusal) → rows ≡ [] → refusal ≡ None → option_or (refusal_now rows refusal) None ≡ None
no_refusal [] refusal none is = ap (λ r. option_or r None) is
no_refusal (s ∷ rows) refusal none is = refl

module _ (m : Meaning) where
  first_goes : (s : Stamped) (new : Rest) → GivesLeast m (record { rows = s ∷ new.rows; refusal = new.refusal } ∷ []) s (new ∷ [])
  first_goes s new = record {
    known = refl;
    least = (inl refl, tt);
    combined = subst (λ (rows : Run). AreCombined m rows s) (sym (ap (λ b. cond b (s ∷ []) [] ++ []) (ties_itself s.key))) (alone s);
    left = λ i. record { rows = rows i; refusal = new.refusal } ∷ [];
  }
    where
      rows : new.rows ≡ cond (eq_by_cmp key_cmp s.key s.key) new.rows (s ∷ new.rows)
      rows = sym (ap (λ b. cond b new.rows (s ∷ new.rows)) (ties_itself s.key))

  filled : (old new : Rest) (first : Option Stamped) → Fills old (Ok tt) new first → (left : List Rest) × GivesOne m (old ∷ []) first left × (left ≡ new ∷ [])
  filled old new None (rows, refusal, same) = (old ∷ [], ((rows, tt), no_refusal old.rows old.refusal rows refusal, refl), ap (λ (r : Rest). r ∷ []) (sym same))
  filled old new (Some s) (rows, refusal) = (new ∷ [], subst (λ (r : Rest). GivesLeast m (r ∷ []) s (new ∷ [])) (λ i. record { rows = sym rows i; refusal = refusal i }) (first_goes s new), refl)

  pub source_gives : (result : Result (Unit {0}) Refusal) (old new : Rest) (first : Option Stamped) → Fills old result new first
      → OnOk result ((rests : List Rest) → rests ≡ old ∷ [] → (left : List Rest) × GivesOne m rests first left × (left ≡ new ∷ []))
  source_gives (Ok done) old new first fills = λ rests is.
      let (left, gives, are) = filled old new first (of_ok old new first done fills) in
      (left, subst (λ (rs : List Rest). GivesOne m rs first left) (sym is) gives, are)
    where
      of_ok : (old new : Rest) (first : Option Stamped) (done : Unit {0}) → Fills old (Ok done) new first → Fills old (Ok tt) new first
      of_ok old new None done fills = fills
      of_ok old new (Some s) done fills = fills
  source_gives (Err e) old new first fills = tt

pub source_refuses : (result : Result (Unit {0}) Refusal) (old new : Rest) (first : Option Stamped) → Fills old result new first
    → IfErr result (λ e. e ≢ Memory → (rests : List Rest) → rests ≡ old ∷ [] → first_refusal rests ≡ Some e)
source_refuses (Ok done) old new first fills = tt
source_refuses (Err e) old new first fills = λ other rests is.
    let f = fills other in
    ap first_refusal is ∙ ap (λ (rows : Run). option_or (refusal_now rows old.refusal) None) f.0 ∙ ap (λ a. option_or a None) f.1

pub source_leaves : (result : Result (Unit {0}) Refusal) (old new : Rest) (first : Option Stamped) → Fills old result new first → IfErr result (λ e. e ≢ Memory → first ≡ None)
source_leaves (Ok done) old new first fills = tt
source_leaves (Err e) old new first fills = λ other. (fills other).3

-- the same of a call that hands the row out
pub hands_refusal : (old new : Rest) (e : Refusal) (first : Option Stamped) → Fills old (Err e) new first → HandsOut old (Err e) new
hands_refusal old new e first fills = λ other. let f = fills other in (f.0, f.1, f.2, refl)
