-- Rows that are given one after another rise, and each speaks for what the runs have of its key.
use Rattle.std.proofs.Common.{◌≡◌, ◌≢◌, zero, List, [], ◌∷◌, ◌++◌, map, All, true, false, cond, refl, sym, ap, subst, ◌∙◌, arith, inl, inr}
use Rattle.std.specs.List.{AllByRecursion, flat_map}
use Rattle.std.specs.List.Sorted.{IsStrictlySortedBy}
use Rattle.std.specs.Ordering.{eq_by_cmp}
use Rattle.std.specs.declared.cmp.Ordering.TheVariants.{Less}
use Rattle.std.proofs.lemmas.List.{map-append}
use Rattle.std.proofs.lemmas.List.Elements.{All-cons, All-nil, All-tail}
use Rattle.pm_base.proofs.Laws.{AllByRecursion-append, AllByRecursion-parts}
use Rattle.pm_values.specs.Order.{Values, key_cmp, key_total}
use Rattle.pm_values.specs.declared.record.Stamped.{Stamped}
use Rattle.pm_model_history.specs.Merge.{HistoryRow}
use Rattle.pm_engine.specs.Covers.{IsRising, Run, of_key, row_of, stored_rows}
use Rattle.pm_engine.specs.Meaning.{Meaning, SpeaksFor}
use Rattle.pm_engine.proofs.Rising.{apart, apart_back, tied, ties_itself}
use Rattle.pm_merge.specs.Merge.{AreStored, all_rows}
use Rattle.pm_merge.specs.Merging.{AreCombined, BeginsFrom, GivesAll, GivesLeast, HaveNoRow, alone, joined, first_of_key, rest_past, rows_past, runs_in}
use Rattle.pm_merge.specs.Source.{Rest}
use Rattle.pm_compaction_log.specs.Older.{AreBelow}

-- ---- rising runs

-- the rows have keys above this one
abbrev pub AreOver : Values → Run → Type 0
AreOver key run = AllByRecursion (λ (x : Stamped). key_cmp key x.key ≡ Less) run

over-from_keys : (key : Values) (run : Run) → AllByRecursion (λ k. key_cmp key k ≡ Less) (map (λ (x : Stamped). x.key) run) → AreOver key run
over-from_keys key [] all = tt
over-from_keys key (x ∷ xs) all = (all.0, over-from_keys key xs all.1)

rising-parts : (x : Stamped) (run : Run) → IsRising (x ∷ run) → AreOver x.key run × IsRising run
unfolding IsStrictlySortedBy
rising-parts x run rising = (over-from_keys x.key run rising.0, rising.1)

over-rest : (low high : Values) (run : Run) → key_cmp low high ≡ Less → AreOver high run → AreOver low run
over-rest low high [] less all = tt
over-rest low high (x ∷ xs) less all = (key_total.trans low high x.key less all.0, over-rest low high xs less all.1)

over-all : (low : Values) (x : Stamped) (run : Run) → key_cmp low x.key ≡ Less → IsRising (x ∷ run) → AreOver low (x ∷ run)
over-all low x run less rising = (less, over-rest low x.key run less (rising-parts x run rising).0)

of_key-over : (key : Values) (run : Run) → AreOver key run → of_key key run ≡ []
of_key-over key [] all = refl
of_key-over key (x ∷ xs) all = ap (λ b. cond b (x ∷ of_key key xs) (of_key key xs)) (apart key x.key all.0) ∙ of_key-over key xs all.1

of_key-other : (key : Values) (x : Stamped) (run : Run) → eq_by_cmp key_cmp key x.key ≡ false → of_key key (x ∷ run) ≡ of_key key run
of_key-other key x run test = ap (λ b. cond b (x ∷ of_key key run) (of_key key run)) test

of_key-first : (key : Values) (x : Stamped) (run : Run) → eq_by_cmp key_cmp key x.key ≡ true → AreOver x.key run → of_key key (x ∷ run) ≡ x ∷ []
of_key-first key x run test over =
    ap (λ b. cond b (x ∷ of_key key run) (of_key key run)) test
    ∙ ap (λ (rest : Run). x ∷ rest) (subst (λ k. of_key k run ≡ []) (sym (tied key x.key test)) (of_key-over x.key run over))

-- ---- rests

abbrev pub AreRising : List Rest → Type 0
AreRising rests = AllByRecursion (λ (r : Rest). IsRising r.rows) rests

pub are-rising : (rests : List Rest) → All IsRising (runs_in rests) → AreRising rests
are-rising [] rising = tt
are-rising (r ∷ rests) rising = (rising zero r.rows (omega arith), are-rising rests (All-tail IsRising r.rows (runs_in rests) rising))

all-rising : (rests : List Rest) → AreRising rests → All IsRising (runs_in rests)
all-rising [] rising = All-nil IsRising
all-rising (r ∷ rests) rising = All-cons IsRising r.rows (runs_in rests) rising.0 (all-rising rests rising.1)

abbrev RowsOver : Values → List Rest → Type 0
RowsOver key rests = AreOver key (all_rows (runs_in rests))

module _ (key : Values) where
  abbrev AllFrom : List Rest → Type 0
  AllFrom rests = AllByRecursion (λ (r : Rest). BeginsFrom key r.rows) rests

  abbrev firsts : List Rest → Run
  firsts rests = flat_map (λ (r : Rest). first_of_key key r.rows) rests

  abbrev past : List Rest → List Rest
  past rests = map (rest_past key) rests

  same-test : (x : Stamped) → key ≡ x.key → eq_by_cmp key_cmp key x.key ≡ true
  same-test x same = subst (λ k. eq_by_cmp key_cmp key k ≡ true) same (ties_itself key)

  first-only : (run : Run) → IsRising run → BeginsFrom key run → of_key key run ≡ first_of_key key run
  first-only [] rising from = refl
  first-only (x ∷ run) rising (inl same) =
      of_key-first key x run (same-test x same) (rising-parts x run rising).0 ∙ sym (ap (λ b. cond b (x ∷ []) []) (same-test x same))
  first-only (x ∷ run) rising (inr less) =
      of_key-over key (x ∷ run) (over-all key x run less rising) ∙ sym (ap (λ b. cond b (x ∷ []) []) (apart key x.key less))

  firsts-stored : (rests : List Rest) → AreRising rests → AllFrom rests → map row_of (firsts rests) ≡ stored_rows key (runs_in rests)
  firsts-stored [] rising from = refl
  firsts-stored (r ∷ rests) rising from =
      map-append row_of (first_of_key key r.rows) (firsts rests)
      ∙ ap (λ (xs : List HistoryRow). xs ++ map row_of (firsts rests)) (ap (map row_of) (sym (first-only r.rows rising.0 from.0)))
      ∙ ap (λ (xs : List HistoryRow). map row_of (of_key key r.rows) ++ xs) (firsts-stored rests rising.1 from.1)

  -- what is left without the first rows of the key

  past-run : (P : Stamped → Type 0) (run : Run) → AllByRecursion P run → AllByRecursion P (rows_past key run)
  past-run P [] all = tt
  past-run P (x ∷ run) all =
      elim (eq_by_cmp key_cmp key x.key) as (λ b. AllByRecursion P (cond b run (x ∷ run))) [
        | true ↦ all.1
        | false ↦ all
      ]

  past-all : (P : Stamped → Type 0) (rests : List Rest) → AllByRecursion P (all_rows (runs_in rests)) → AllByRecursion P (all_rows (runs_in (past rests)))
  past-all P [] all = tt
  past-all P (r ∷ rests) all =
      let parts = AllByRecursion-parts P r.rows (all_rows (runs_in rests)) all in
      AllByRecursion-append P (rows_past key r.rows) (all_rows (runs_in (past rests))) (past-run P r.rows parts.0) (past-all P rests parts.1)

  past-rising : (run : Run) → IsRising run → IsRising (rows_past key run)
  past-rising [] rising = rising
  past-rising (x ∷ run) rising =
      elim (eq_by_cmp key_cmp key x.key) as (λ b. IsRising (cond b run (x ∷ run))) [
        | true ↦ (rising-parts x run rising).1
        | false ↦ rising
      ]

  all-past-rising : (rests : List Rest) → AreRising rests → AreRising (past rests)
  all-past-rising [] rising = tt
  all-past-rising (r ∷ rests) rising = (past-rising r.rows rising.0, all-past-rising rests rising.1)

  past-over : (run : Run) → IsRising run → BeginsFrom key run → AreOver key (rows_past key run)
  past-over [] rising from = tt
  past-over (x ∷ run) rising (inl same) =
      subst (AreOver key) (sym (ap (λ b. cond b run (x ∷ run)) (same-test x same))) (subst (λ k. AreOver k run) (sym same) (rising-parts x run rising).0)
  past-over (x ∷ run) rising (inr less) =
      subst (AreOver key) (sym (ap (λ b. cond b run (x ∷ run)) (apart key x.key less))) (over-all key x run less rising)

  all-past-over : (rests : List Rest) → AreRising rests → AllFrom rests → RowsOver key (past rests)
  all-past-over [] rising from = tt
  all-past-over (r ∷ rests) rising from =
      AllByRecursion-append (λ (x : Stamped). key_cmp key x.key ≡ Less) (rows_past key r.rows) (all_rows (runs_in (past rests))) (past-over r.rows rising.0 from.0) (all-past-over rests rising.1 from.1)

  past-other : (other : Values) (run : Run) → eq_by_cmp key_cmp other key ≡ false → of_key other (rows_past key run) ≡ of_key other run
  past-other other [] differs = refl
  past-other other (x ∷ run) differs =
      elim (eq_by_cmp key_cmp key x.key) as (λ b. eq_by_cmp key_cmp key x.key ≡ b → of_key other (cond b run (x ∷ run)) ≡ of_key other (x ∷ run)) [
        | true ↦ λ e. sym (of_key-other other x run (subst (λ k. eq_by_cmp key_cmp other k ≡ false) (tied key x.key e) differs))
        | false ↦ λ e. refl
      ] refl

  stored-other : (other : Values) (rests : List Rest) → eq_by_cmp key_cmp other key ≡ false → stored_rows other (runs_in (past rests)) ≡ stored_rows other (runs_in rests)
  stored-other other [] differs = refl
  stored-other other (r ∷ rests) differs =
      let here = past-other other r.rows differs in
      let later = stored-other other rests differs in
      λ i. map row_of (here i) ++ later i

  -- the first rows of the key are among the rows
  firsts-over : (low : Values) (rests : List Rest) → RowsOver low rests → firsts rests ≢ [] → key_cmp low key ≡ Less
  firsts-over low [] over some = absurd (some refl)
  firsts-over low (r ∷ rests) over some =
      let parts = AllByRecursion-parts (λ (x : Stamped). key_cmp low x.key ≡ Less) r.rows (all_rows (runs_in rests)) over in
      at r.rows parts.0 (λ others. firsts-over low rests parts.1 others) some
    where
      at : (run : Run) → AreOver low run → (firsts rests ≢ [] → key_cmp low key ≡ Less) → first_of_key key run ++ firsts rests ≢ [] → key_cmp low key ≡ Less
      at [] all later more = later more
      at (x ∷ run) all later more =
          elim (eq_by_cmp key_cmp key x.key) as (λ b. eq_by_cmp key_cmp key x.key ≡ b → cond b (x ∷ []) [] ++ firsts rests ≢ [] → key_cmp low key ≡ Less) [
            | true ↦ λ e others. subst (λ k. key_cmp low k ≡ Less) (sym (tied key x.key e)) all.0
            | false ↦ λ e others. later others
          ] refl more

  -- where all rows are above the key none has it
  none-over : (rests : List Rest) → RowsOver key rests → stored_rows key (runs_in rests) ≡ []
  none-over [] over = refl
  none-over (r ∷ rests) over =
      let parts = AllByRecursion-parts (λ (x : Stamped). key_cmp key x.key ≡ Less) r.rows (all_rows (runs_in rests)) over in
      ap (λ (xs : Run). map row_of xs ++ stored_rows key (runs_in rests)) (of_key-over key r.rows parts.0) ∙ none-over rests parts.1

  pub none-left : (rests : List Rest) → HaveNoRow rests → stored_rows key (runs_in rests) ≡ []
  none-left [] none = refl
  none-left (r ∷ rests) none =
      ap (λ (run : Run). map row_of (of_key key run) ++ stored_rows key (runs_in rests)) none.0 ∙ none-left rests none.1

-- a key below all first rows is below all rows
low-run : (low key : Values) (run : Run) → key_cmp low key ≡ Less → IsRising run → BeginsFrom key run → AreOver low run
low-run low key [] less rising from = tt
low-run low key (x ∷ run) less rising (inl same) = over-all low x run (subst (λ k. key_cmp low k ≡ Less) same less) rising
low-run low key (x ∷ run) less rising (inr more) = over-all low x run (key_total.trans low key x.key less more) rising

low-rows : (low key : Values) (rests : List Rest) → key_cmp low key ≡ Less → AreRising rests → AllFrom key rests → RowsOver low rests
low-rows low key [] less rising from = tt
low-rows low key (r ∷ rests) less rising from =
    AllByRecursion-append (λ (x : Stamped). key_cmp low x.key ≡ Less) r.rows (all_rows (runs_in rests)) (low-run low key r.rows less rising.0 from.0) (low-rows low key rests less rising.1 from.1)

-- ---- one row that is given

module _ (m : Meaning) where
  abbrev Itself : Stamped → Type 0
  Itself x = SpeaksFor m x.key (row_of x) (row_of x ∷ [])

  some-rows : (rows : Run) (x : Stamped) → AreCombined m rows x → rows ≢ []
  some-rows _ _ (alone x) = λ e. cc
  some-rows _ _ (joined rows olders newers older newer x is one two both) = λ e. longer olders newers (some-rows olders older one) (sym is ∙ e)
    where
      longer : (xs ys : Run) → xs ≢ [] → xs ++ ys ≢ []
      longer [] ys some = absurd (some refl)
      longer (y ∷ xs) ys some = λ e. cc

  combined-speaks : (key : Values) (rows : Run) (x : Stamped) → AreCombined m rows x → AllByRecursion (λ (y : Stamped). SpeaksFor m key (row_of y) (row_of y ∷ [])) rows
      → SpeaksFor m key (row_of x) (map row_of rows)
  combined-speaks key _ _ (alone x) all = all.0
  combined-speaks key _ _ (joined rows olders newers older newer x is one two both) all =
      let parts = AllByRecursion-parts (λ (y : Stamped). SpeaksFor m key (row_of y) (row_of y ∷ [])) olders newers (subst (AllByRecursion (λ (y : Stamped). SpeaksFor m key (row_of y) (row_of y ∷ []))) is all) in
      subst (SpeaksFor m key (row_of x)) (sym (map-append row_of olders newers) ∙ sym (ap (map row_of) is))
      (both.speaks key (map row_of olders) (map row_of newers) (combined-speaks key olders older one parts.0) (combined-speaks key newers newer two parts.1))

  firsts-speak : (key : Values) (rests : List Rest) → AllByRecursion Itself (all_rows (runs_in rests)) → AllByRecursion (λ (y : Stamped). SpeaksFor m key (row_of y) (row_of y ∷ [])) (firsts key rests)
  firsts-speak key [] all = tt
  firsts-speak key (r ∷ rests) all =
      let parts = AllByRecursion-parts Itself r.rows (all_rows (runs_in rests)) all in
      AllByRecursion-append (λ (y : Stamped). SpeaksFor m key (row_of y) (row_of y ∷ [])) (first_of_key key r.rows) (firsts key rests) (first r.rows parts.0) (firsts-speak key rests parts.1)
    where
      first : (run : Run) → AllByRecursion Itself run → AllByRecursion (λ (y : Stamped). SpeaksFor m key (row_of y) (row_of y ∷ [])) (first_of_key key run)
      first [] own = tt
      first (x ∷ run) own =
          elim (eq_by_cmp key_cmp key x.key) as (λ b. eq_by_cmp key_cmp key x.key ≡ b → AllByRecursion (λ (y : Stamped). SpeaksFor m key (row_of y) (row_of y ∷ [])) (cond b (x ∷ []) [])) [
            | true ↦ λ e. (subst (λ k. SpeaksFor m k (row_of x) (row_of x ∷ [])) (sym (tied key x.key e)) own.0, tt)
            | false ↦ λ e. tt
          ] refl

  speaks-here : (rests later : List Rest) (x : Stamped) → AreStored m (runs_in rests) → GivesLeast m rests x later → SpeaksFor m x.key (row_of x) (stored_rows x.key (runs_in rests))
  speaks-here rests later x stored least =
      subst (SpeaksFor m x.key (row_of x)) (firsts-stored x.key rests (are-rising rests stored.rising) least.least)
      (combined-speaks x.key (firsts x.key rests) x least.combined (firsts-speak x.key rests stored.speak))

  above-least : (low : Values) (rests later : List Rest) (x : Stamped) → RowsOver low rests → GivesLeast m rests x later → key_cmp low x.key ≡ Less
  above-least low rests later x over least = firsts-over x.key low rests over (some-rows (firsts x.key rests) x least.combined)

  left-stored : (rests : List Rest) (key : Values) → AreStored m (runs_in rests) → AreStored m (runs_in (past key rests))
  left-stored rests key stored = record {
    rising = all-rising (past key rests) (all-past-rising key rests (are-rising rests stored.rising));
    speak = past-all key Itself rests stored.speak;
    kinds = past-all key (λ (x : Stamped). x.kind ≡ m.kind (row_of x ∷ [])) rests stored.kinds;
  }

  -- ---- rows one after another

  pub gives-append : (first mid last : List Rest) (xs ys : Run) → GivesAll m first xs mid → GivesAll m mid ys last → GivesAll m first (xs ++ ys) last
  gives-append first mid last [] ys one two = subst (λ (rs : List Rest). GivesAll m rs ys last) one two
  gives-append first mid last (x ∷ xs) ys (later, least, one) two = (later, least, gives-append later mid last xs ys one two)

  given-over : (low : Values) (rests left later : List Rest) (run : Run) (x : Stamped) → RowsOver low rests → GivesAll m rests run left → GivesLeast m left x later → key_cmp low x.key ≡ Less
  given-over low rests left later [] x over gave least = above-least low rests later x over (subst (λ (rs : List Rest). GivesLeast m rs x later) gave least)
  given-over low rests left later (y ∷ run) x over (mid, first, gave) least =
      given-over low mid left later run x (subst (RowsOver low) (sym first.left) (past-all y.key (λ (z : Stamped). key_cmp low z.key ≡ Less) rests over)) gave least

  -- the rows before are below the next one
  pub given-below : (rests left later : List Rest) (run : Run) (x : Stamped) → AreRising rests → GivesAll m rests run left → GivesLeast m left x later → AreBelow x.key run
  given-below rests left later [] x rising gave least = tt
  given-below rests left later (y ∷ run) x rising (mid, first, gave) least = (
    given-over y.key mid left later run x (subst (RowsOver y.key) (sym first.left) (all-past-over y.key rests rising first.least)) gave least,
    given-below mid left later run x (subst AreRising (sym first.left) (all-past-rising y.key rests rising)) gave least,
  )

  given-rising : (rests left : List Rest) (run : Run) → AreRising rests → GivesAll m rests run left → AreRising left
  given-rising rests left [] rising gave = subst AreRising (sym gave) rising
  given-rising rests left (y ∷ run) rising (mid, first, gave) = given-rising mid left run (subst AreRising (sym first.left) (all-past-rising y.key rests rising)) gave

  given-stored : (rests left : List Rest) (run : Run) → AreStored m (runs_in rests) → GivesAll m rests run left → AreStored m (runs_in left)
  given-stored rests left [] stored gave = subst (λ (rs : List Rest). AreStored m (runs_in rs)) (sym gave) stored
  given-stored rests left (y ∷ run) stored (mid, first, gave) =
      given-stored mid left run (subst (λ (rs : List Rest). AreStored m (runs_in rs)) (sym first.left) (left-stored rests y.key stored)) gave

  -- of a key above those that were given what was there is left
  pub given-others : (key : Values) (rests left : List Rest) (run : Run) → GivesAll m rests run left → AreBelow key run → stored_rows key (runs_in left) ≡ stored_rows key (runs_in rests)
  given-others key rests left [] gave below = ap (λ (rs : List Rest). stored_rows key (runs_in rs)) gave
  given-others key rests left (y ∷ run) (mid, first, gave) below =
      given-others key mid left run gave below.1
      ∙ ap (λ (rs : List Rest). stored_rows key (runs_in rs)) first.left
      ∙ stored-other y.key key rests (apart_back y.key key below.0)

  -- the next row speaks for what all runs have of its key
  pub given-speaks : (rests left later : List Rest) (run : Run) (x : Stamped) → AreStored m (runs_in rests) → GivesAll m rests run left → GivesLeast m left x later
      → SpeaksFor m x.key (row_of x) (stored_rows x.key (runs_in rests))
  given-speaks rests left later run x stored gave least =
      subst (SpeaksFor m x.key (row_of x)) (given-others x.key rests left run gave (given-below rests left later run x (are-rising rests stored.rising) gave least))
      (speaks-here left later x (given-stored rests left run stored gave) least)

  -- where the next row is above a key none is left of it
  pub none-before : (key : Values) (rests left later : List Rest) (run : Run) (x : Stamped) → AreRising rests → GivesAll m rests run left → GivesLeast m left x later → key_cmp key x.key ≡ Less
      → stored_rows key (runs_in left) ≡ []
  none-before key rests left later run x rising gave least less = none-over key left (low-rows key x.key left less (given-rising rests left run rising gave) least.least)
