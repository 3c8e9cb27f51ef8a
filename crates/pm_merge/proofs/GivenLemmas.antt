-- Rows that are given one after another are the merge of what was there.
use Rattle.std.proofs.Common.{◌≡◌, ◌≢◌, ℕ, zero, List, [], ◌∷◌, ◌++◌, map, max, All, true, false, cond, refl, sym, ap, subst, ◌∙◌, arith, append-nil, inl, inr}
use Rattle.std.specs.List.{AllByRecursion, AllZip, flat_map}
use Rattle.std.specs.Ordering.{eq_by_cmp}
use Rattle.std.specs.declared.cmp.Ordering.TheVariants.{Less}
use Rattle.std.proofs.lemmas.List.{map-append}
use Rattle.std.proofs.lemmas.List.Elements.{All-tail, filter-append}
use Rattle.pm_base.proofs.Laws.{AllByRecursion-append, AllByRecursion-parts}
use Rattle.pm_values.specs.Order.{Values, key_cmp}
use Rattle.pm_values.specs.declared.record.Stamped.{Stamped}
use Rattle.pm_model_history.specs.Merge.{HistoryRow}
use Rattle.pm_engine.specs.Covers.{Holds, IsRising, Run, of_key, row_of}
use Rattle.pm_engine.specs.Meaning.{Meaning, SpeaksFor}
use Rattle.pm_engine.specs.Reducing.{greatest_number}
use Rattle.pm_engine.proofs.Rising.{apart, tied, ties_itself}
use Rattle.pm_merge.specs.Merge.{AreStored, HaveOwnKinds, IsMerge, all_rows}
use Rattle.pm_merge.specs.Merging.{AreCombined, BeginsFrom, GivesAll, GivesLeast, HaveNoRow, alone, joined, first_of_key, rest_past, rows_past, runs_in}
use Rattle.pm_merge.specs.Source.{Rest}
use Rattle.pm_merge.proofs.MergeLemmas as merged
use Rattle.pm_merge.proofs.MergeLemmas.{AllZip-parts, HasKind, HasNumber, HaveParts, Joins, JoinsAt, each_of, is_merge, joined-append}
use Rattle.pm_merge.proofs.OneLemmas.{IsOne, one-merge}
use Rattle.pm_merge.proofs.RisingLemmas.{AllAbove, above-all, of_key-above, of_key-first, of_key-other, rising-cons, rising-nil, rising-parts}

-- ---- rows of one key that became one

some_before : (xs ys : Run) → xs ≢ [] → xs ++ ys ≢ []
some_before [] ys some = absurd (some refl)
some_before (x ∷ xs) ys some = λ e. cc

not_alone : (xs ys : Run) (s : Stamped) → xs ≢ [] → ys ≢ [] → xs ++ ys ≢ s ∷ []
not_alone [] ys s one two = absurd (one refl)
not_alone (x ∷ xs) [] s one two = absurd (two refl)
not_alone (x ∷ []) (y ∷ ys) s one two = λ e. cc
not_alone (x ∷ z ∷ xs) (y ∷ ys) s one two = λ e. cc

greatest-append : (xs ys : Run) → greatest_number (xs ++ ys) ≡ max (greatest_number xs) (greatest_number ys)
greatest-append [] ys = omega arith
greatest-append (x ∷ xs) ys = ap (max x.seq) (greatest-append xs ys) ∙ regroup x.seq (greatest_number xs) (greatest_number ys)
  where
    regroup : (a b c : ℕ) → max a (max b c) ≡ max (max a b) c
    regroup a b c = omega arith

module _ (m : Meaning) where
  some_rows : (rows : Run) (s : Stamped) → AreCombined m rows s → rows ≢ []
  some_rows _ _ (alone s) = λ e. cc
  some_rows _ _ (joined rows olders newers older newer s is one two both) = λ e. some_before olders newers (some_rows olders older one) (sym is ∙ e)

  mapped_rows : (rows : Run) → rows ≢ [] → map row_of rows ≢ []
  mapped_rows [] some = absurd (some refl)
  mapped_rows (x ∷ xs) some = λ e. cc

  -- it has the greatest number
  number_of : (rows : Run) (s : Stamped) → AreCombined m rows s → s.seq ≡ greatest_number rows
  number_of _ _ (alone s) = omega arith
  number_of _ _ (joined rows olders newers older newer s is one two both) =
      both.number ∙ ap (λ n. max n newer.seq) (number_of olders older one) ∙ ap (max (greatest_number olders)) (number_of newers newer two)
      ∙ sym (greatest-append olders newers) ∙ ap greatest_number (sym is)

  -- it has their kind, where they have their own
  kind_of : (rows : Run) (s : Stamped) → AreCombined m rows s → HaveOwnKinds m rows → s.kind ≡ m.kind (map row_of rows)
  kind_of _ _ (alone s) own = own.0
  kind_of _ _ (joined rows olders newers older newer s is one two both) own =
      let parts = AllByRecursion-parts (λ (t : Stamped). t.kind ≡ m.kind (row_of t ∷ [])) olders newers (subst (HaveOwnKinds m) is own) in
      both.kind (map row_of olders) (map row_of newers) (mapped_rows olders (some_rows olders older one)) (mapped_rows newers (some_rows newers newer two))
      (kind_of olders older one parts.0) (kind_of newers newer two parts.1)
      ∙ ap m.kind (sym (map-append row_of olders newers) ∙ ap (map row_of) (sym is))

  -- one that is alone stays as it is
  kept_of : (rows : Run) (s : Stamped) → AreCombined m rows s → (t : Stamped) → rows ≡ t ∷ [] → s ∷ [] ≡ t ∷ []
  kept_of _ _ (alone s) t e = e
  kept_of _ _ (joined rows olders newers older newer s is one two both) t e = absurd (not_alone olders newers t (some_rows olders older one) (some_rows newers newer two) (sym is ∙ e))

  abbrev pub SpeakFor : Values → Run → List (List HistoryRow) → Type 0
  SpeakFor key rows parts = AllZip (λ (x : Stamped) (part : List HistoryRow). SpeaksFor m key (row_of x) part) rows parts

  -- it speaks for what they speak for
  speaks_for : (rows : Run) (s : Stamped) → AreCombined m rows s → (key : Values) (parts : List (List HistoryRow)) → SpeakFor key rows parts → SpeaksFor m key (row_of s) (merged.joined parts)
  speaks_for _ _ (alone s) key parts speak = of_one s parts speak
    where
      of_one : (s : Stamped) (parts : List (List HistoryRow)) → SpeakFor key (s ∷ []) parts → SpeaksFor m key (row_of s) (merged.joined parts)
      of_one s [] speak = absurd speak
      of_one s (p ∷ []) speak = subst (SpeaksFor m key (row_of s)) (sym (append-nil p)) speak.0
      of_one s (p ∷ q ∷ ps) speak = absurd speak.1
  speaks_for _ _ (joined rows olders newers older newer s is one two both) key parts speak =
      let split = AllZip-parts (λ (x : Stamped) (part : List HistoryRow). SpeaksFor m key (row_of x) part) olders newers parts (subst (λ (rs : Run). SpeakFor key rs parts) is speak) in
      subst (SpeaksFor m key (row_of s)) (sym (ap merged.joined split.2 ∙ joined-append split.0 split.1))
      (both.speaks key (merged.joined split.0) (merged.joined split.1) (speaks_for olders older one key split.0 split.3) (speaks_for newers newer two key split.1 split.4))

  -- ---- what runs hold of a key

  -- the parts of those that have a row of it
  own_part : (key : Values) (own rows : Run) (p : List HistoryRow) (ps : List (List HistoryRow)) → Holds m key own p → SpeakFor key rows ps
      → (parts : List (List HistoryRow)) × SpeakFor key (own ++ rows) parts × (merged.joined parts ≡ p ++ merged.joined ps)
  own_part key [] rows p ps holds speak = (ps, speak, ap (λ (q : List HistoryRow). q ++ merged.joined ps) (sym holds))
  own_part key (s ∷ []) rows p ps holds speak = (p ∷ ps, (holds, speak), refl)
  own_part key (s ∷ t ∷ more) rows p ps holds speak = absurd holds

  pub all_parts : (key : Values) (runs : List Run) (parts : List (List HistoryRow)) → HaveParts m key runs parts
      → (kept : List (List HistoryRow)) × SpeakFor key (of_key key (all_rows runs)) kept × (merged.joined kept ≡ merged.joined parts)
  all_parts key [] [] holds = ([], tt, refl)
  all_parts key [] (p ∷ ps) holds = absurd holds
  all_parts key (run ∷ runs) [] holds = absurd holds
  all_parts key (run ∷ runs) (p ∷ ps) holds =
      let later = all_parts key runs ps holds.1 in
      let first = own_part key (of_key key run) (of_key key (all_rows runs)) p later.0 holds.0 later.1 in (
        first.0,
        subst (λ (rs : Run). SpeakFor key rs first.0) (sym (filter-append (λ (s : Stamped). eq_by_cmp key_cmp key s.key) run (all_rows runs))) first.1,
        first.2 ∙ ap (λ (q : List HistoryRow). p ++ q) later.2,
      )

-- ---- first rows of a key, and what is left without them

abbrev pub AreRising : List Rest → Type 0
AreRising rests = AllByRecursion (λ (r : Rest). IsRising r.rows) rests

pub are_rising : (rests : List Rest) → All IsRising (runs_in rests) → AreRising rests
are_rising [] rising = tt
are_rising (r ∷ rests) rising = (rising zero r.rows (omega arith), are_rising rests (All-tail IsRising r.rows (runs_in rests) rising))

-- the first row is the only one of a key that isn't above the first one's
first_only : (key : Values) (run : Run) → IsRising run → BeginsFrom key run → of_key key run ≡ first_of_key key run
first_only key [] rising from = refl
first_only key (s ∷ run) rising (inl same) =
    let test : eq_by_cmp key_cmp key s.key ≡ true = subst (λ k. eq_by_cmp key_cmp key k ≡ true) same (ties_itself key) in
    of_key-first key s run test (rising-parts s run rising).0 ∙ sym (ap (λ b. cond b (s ∷ []) []) test)
first_only key (s ∷ run) rising (inr less) =
    of_key-above key (s ∷ run) (above-all key s run less rising) ∙ sym (ap (λ b. cond b (s ∷ []) []) (apart key s.key less))

-- what is left without it is above the key, and rises
past_above : (key : Values) (run : Run) → IsRising run → BeginsFrom key run → AllAbove key (rows_past key run)
past_above key [] rising from = tt
past_above key (s ∷ run) rising (inl same) =
    let test : eq_by_cmp key_cmp key s.key ≡ true = subst (λ k. eq_by_cmp key_cmp key k ≡ true) same (ties_itself key) in
    subst (AllAbove key) (sym (ap (λ b. cond b run (s ∷ run)) test)) (subst (λ k. AllAbove k run) (sym same) (rising-parts s run rising).0)
past_above key (s ∷ run) rising (inr less) =
    subst (AllAbove key) (sym (ap (λ b. cond b run (s ∷ run)) (apart key s.key less))) (above-all key s run less rising)

past_rising : (key : Values) (run : Run) → IsRising run → IsRising (rows_past key run)
past_rising key [] rising = rising
past_rising key (s ∷ run) rising =
    elim (eq_by_cmp key_cmp key s.key) as (λ b. IsRising (cond b run (s ∷ run))) [
      | true ↦ (rising-parts s run rising).1
      | false ↦ rising
    ]

-- and has of another key what was there
pub past_other : (key other : Values) (run : Run) → eq_by_cmp key_cmp other key ≡ false → of_key other (rows_past key run) ≡ of_key other run
past_other key other [] differs = refl
past_other key other (s ∷ run) differs =
    elim (eq_by_cmp key_cmp key s.key) as (λ b. eq_by_cmp key_cmp key s.key ≡ b → of_key other (cond b run (s ∷ run)) ≡ of_key other (s ∷ run)) [
      | true ↦ λ e. sym (of_key-other other s run (subst (λ k. eq_by_cmp key_cmp other k ≡ false) (tied key s.key e) differs))
      | false ↦ λ e. refl
    ] refl

module _ (key : Values) where
  abbrev pub AllFrom : List Rest → Type 0
  AllFrom rests = AllByRecursion (λ (r : Rest). BeginsFrom key r.rows) rests

  abbrev pub firsts : List Rest → Run
  firsts rests = flat_map (λ (r : Rest). first_of_key key r.rows) rests

  abbrev pub past : List Rest → List Rest
  past rests = map (rest_past key) rests

  firsts_only : (rests : List Rest) → AreRising rests → AllFrom rests → of_key key (all_rows (runs_in rests)) ≡ firsts rests
  firsts_only [] rising from = refl
  firsts_only (r ∷ rests) rising from =
      filter-append (λ (s : Stamped). eq_by_cmp key_cmp key s.key) r.rows (all_rows (runs_in rests))
      ∙ ap (λ (xs : Run). xs ++ of_key key (all_rows (runs_in rests))) (first_only key r.rows rising.0 from.0)
      ∙ ap (λ (xs : Run). first_of_key key r.rows ++ xs) (firsts_only rests rising.1 from.1)

  pub all_past_above : (rests : List Rest) → AreRising rests → AllFrom rests → AllAbove key (all_rows (runs_in (past rests)))
  all_past_above [] rising from = tt
  all_past_above (r ∷ rests) rising from =
      AllByRecursion-append (λ (s : Stamped). key_cmp key s.key ≡ Less) (rows_past key r.rows) (all_rows (runs_in (past rests))) (past_above key r.rows rising.0 from.0)
      (all_past_above rests rising.1 from.1)

  pub all_past_rising : (rests : List Rest) → AreRising rests → AreRising (past rests)
  all_past_rising [] rising = tt
  all_past_rising (r ∷ rests) rising = (past_rising key r.rows rising.0, all_past_rising rests rising.1)

  module _ (other : Values) (differs : eq_by_cmp key_cmp other key ≡ false) where
    pub all_past_other : (rests : List Rest) → of_key other (all_rows (runs_in (past rests))) ≡ of_key other (all_rows (runs_in rests))
    all_past_other [] = refl
    all_past_other (r ∷ rests) =
        filter-append (λ (s : Stamped). eq_by_cmp key_cmp other s.key) (rows_past key r.rows) (all_rows (runs_in (past rests)))
        ∙ ap (λ (xs : Run). xs ++ of_key other (all_rows (runs_in (past rests)))) (past_other key other r.rows differs)
        ∙ ap (λ (xs : Run). of_key other r.rows ++ xs) (all_past_other rests)
        ∙ sym (filter-append (λ (s : Stamped). eq_by_cmp key_cmp other s.key) r.rows (all_rows (runs_in rests)))

    parts_past : (m : Meaning) (rests : List Rest) (parts : List (List HistoryRow)) → HaveParts m other (runs_in rests) parts → HaveParts m other (runs_in (past rests)) parts
    parts_past m [] [] holds = tt
    parts_past m [] (p ∷ ps) holds = absurd holds
    parts_past m (r ∷ rests) [] holds = absurd holds
    parts_past m (r ∷ rests) (p ∷ ps) holds = (subst (λ (own : Run). Holds m other own p) (sym (past_other key other r.rows differs)) holds.0, parts_past m rests ps holds.1)

-- ---- one row more in front

-- where all rows are above a key, the keys of a run made of them are
above_some : (low key : Values) (rows : Run) → AllAbove low rows → of_key key rows ≢ [] → key_cmp low key ≡ Less
above_some low key [] above some = absurd (some refl)
above_some low key (x ∷ xs) above some =
    elim (eq_by_cmp key_cmp key x.key) as (λ t. eq_by_cmp key_cmp key x.key ≡ t → key_cmp low key ≡ Less) [
      | true ↦ λ e. subst (λ k. key_cmp low k ≡ Less) (sym (tied key x.key e)) above.0
      | false ↦ λ e. above_some low key xs above.1 (λ none. some (of_key-other key x xs e ∙ none))
    ] refl

keys_above : (low : Values) (run rows : Run) → IsRising run → ((key : Values) → HasNumber (of_key key run) (of_key key rows)) → AllAbove low rows → AllAbove low run
keys_above low run rows rising numbers above =
    each_of (λ (t : Stamped). of_key t.key run ≡ t ∷ []) (λ (t : Stamped). key_cmp low t.key ≡ Less)
    (λ t is. let number : HasNumber (t ∷ []) (of_key t.key rows) = subst (λ (own : Run). HasNumber own (of_key t.key rows)) is (numbers t.key) in above_some low t.key rows above number.0)
    run (merged.alone run rising)

module _ (m : Meaning) (old : List Rest) (rising : AreRising old) where
  -- of the row's key it has this row
  pub at_first : (s : Stamped) (new : List Rest) → GivesLeast m old s new → JoinsAt m (runs_in old) s.key (s ∷ [])
  at_first s new least =
      let rows : of_key s.key (all_rows (runs_in old)) ≡ firsts s.key old = firsts_only s.key old rising least.least in
      let some : firsts s.key old ≢ [] = some_rows m (firsts s.key old) s least.combined in
      record {
        number = subst (HasNumber (s ∷ [])) (sym rows) (some, number_of m (firsts s.key old) s least.combined);
        kind = λ own. subst (HasKind m (s ∷ [])) (sym rows) (record { some = some; kind = kind_of m (firsts s.key old) s least.combined (subst (HaveOwnKinds m) rows own) });
        kept = λ t e. kept_of m (firsts s.key old) s least.combined t (sym rows ∙ e);
        holds = λ parts holds.
            let own = all_parts m s.key (runs_in old) parts holds in
            subst (SpeaksFor m s.key (row_of s)) own.2
            (speaks_for m (firsts s.key old) s least.combined s.key own.0 (subst (λ (rs : Run). SpeakFor m s.key rs own.0) rows own.1));
      }

  -- of any other what is made of the rest
  at_other : (key other : Values) (own : Run) → eq_by_cmp key_cmp other key ≡ false → JoinsAt m (runs_in (past key old)) other own → JoinsAt m (runs_in old) other own
  at_other key other own differs at =
      let rows : of_key other (all_rows (runs_in (past key old))) ≡ of_key other (all_rows (runs_in old)) = all_past_other key other differs old in
      record {
        number = subst (HasNumber own) rows at.number;
        kind = λ kinds. subst (HasKind m own) rows (at.kind (subst (HaveOwnKinds m) (sym rows) kinds));
        kept = λ t e. at.kept t (rows ∙ e);
        holds = λ parts holds. at.holds parts (parts_past key other differs m old parts holds);
      }

  joins_more : (s : Stamped) (new : List Rest) (run : Run) → GivesLeast m old s new → Joins m (runs_in new) run → Joins m (runs_in old) (s ∷ run)
  joins_more s new run least later =
      let rest : Joins m (runs_in (past s.key old)) run = subst (λ (rs : List Rest). Joins m (runs_in rs) run) least.left later in
      let above : AllAbove s.key run = keys_above s.key run (all_rows (runs_in (past s.key old))) rest.rising (λ key. (rest.at key).number) (all_past_above s.key old rising least.least) in
      record {
        rising = rising-cons s run above rest.rising;
        at = λ key.
            elim (eq_by_cmp key_cmp key s.key) as (λ t. eq_by_cmp key_cmp key s.key ≡ t → JoinsAt m (runs_in old) key (of_key key (s ∷ run))) [
              | true ↦ λ e.
                  subst (λ (own : Run). JoinsAt m (runs_in old) key own) (sym (of_key-first key s run e above))
                  (subst (λ k. JoinsAt m (runs_in old) k (s ∷ [])) (sym (tied key s.key e)) (at_first s new least))
              | false ↦ λ e. subst (λ (own : Run). JoinsAt m (runs_in old) key own) (sym (of_key-other key s run e)) (at_other s.key key (of_key key run) e (rest.at key))
            ] refl;
      }

-- ---- all rows

no_rows : (rests : List Rest) → HaveNoRow rests → all_rows (runs_in rests) ≡ []
no_rows [] none = refl
no_rows (r ∷ rests) none = ap (λ (xs : Run). xs ++ all_rows (runs_in rests)) none.0 ∙ no_rows rests none.1

no_parts : (m : Meaning) (key : Values) (rests : List Rest) (parts : List (List HistoryRow)) → HaveNoRow rests → HaveParts m key (runs_in rests) parts → merged.joined parts ≡ []
no_parts m key [] [] none holds = refl
no_parts m key [] (p ∷ ps) none holds = absurd holds
no_parts m key (r ∷ rests) [] none holds = absurd holds
no_parts m key (r ∷ rests) (p ∷ ps) none holds =
    let own : p ≡ [] = subst (λ (run : Run). Holds m key (of_key key run) p) none.0 holds.0 in
    ap (λ (q : List HistoryRow). q ++ merged.joined ps) own ∙ no_parts m key rests ps none.1 holds.1

joins_none : (m : Meaning) (rests : List Rest) → HaveNoRow rests → Joins m (runs_in rests) []
joins_none m rests none = record {
  rising = rising-nil;
  at = λ key.
      let rows : of_key key (all_rows (runs_in rests)) ≡ [] = ap (of_key key) (no_rows rests none) in
      record { number = rows; kind = λ own. rows; kept = λ s e. sym rows ∙ e; holds = λ parts holds. no_parts m key rests parts none holds };
}

given_joins : (m : Meaning) (first last : List Rest) (run : Run) → AreRising first → GivesAll m first run last → HaveNoRow last → Joins m (runs_in first) run
given_joins m first last [] rising given none = joins_none m first (subst HaveNoRow given none)
given_joins m first last (s ∷ run) rising (later, least, given) none =
    joins_more m first rising s later run least (given_joins m later last run (subst AreRising (sym least.left) (all_past_rising s.key first rising)) given none)

pub given_all : (m : Meaning) (first last : List Rest) (run : Run) → All IsRising (runs_in first) → GivesAll m first run last → HaveNoRow last → IsMerge m (runs_in first) run
given_all m first last run rising given none = is_merge m (runs_in first) run (given_joins m first last run (are_rising first rising) given none)

pub given_same : IsOne → (m : Meaning) (first last : List Rest) (run other : Run) → AreStored m (runs_in first) → GivesAll m first run last → HaveNoRow last → IsMerge m (runs_in first) other → run ≡ other
given_same one m first last run other stored given none merges = one-merge one m (runs_in first) run other stored (given_all m first last run stored.rising given none) merges

pub given_more : (m : Meaning) (first old new : List Rest) (run : Run) (s : Stamped) → GivesAll m first run old → GivesLeast m old s new → GivesAll m first (run ++ s ∷ []) new
given_more m first old new [] s given least = (new, subst (λ (rs : List Rest). GivesLeast m rs s new) given least, refl)
given_more m first old new (x ∷ run) s (later, goes, given) least = (later, goes, given_more m later old new run s given least)

-- ---- no row is given where none is left

no_first : (key : Values) (rests : List Rest) → HaveNoRow rests → flat_map (λ (r : Rest). first_of_key key r.rows) rests ≡ []
no_first key [] none = refl
no_first key (r ∷ rests) none = ap (λ (rows : Run). first_of_key key rows ++ firsts key rests) none.0 ∙ no_first key rests none.1

pub given_some : (m : Meaning) (old new : List Rest) (s : Stamped) → GivesLeast m old s new → HaveNoRow old → ⊥
given_some m old new s gives none = some_rows m (flat_map (λ (r : Rest). first_of_key s.key r.rows) old) s gives.combined (no_first s.key old none)
