-- Rows that were given are the first ones of the merge, and what is left is merged into the others.
use Rattle.std.proofs.Common.{◌≡◌, ◌↔◌, List, [], ◌∷◌, ◌++◌, map, All, true, false, cond, refl, sym, ap, subst, ◌∙◌, inl, inr}
use Rattle.std.specs.List.{AllByRecursion}
use Rattle.std.specs.Ordering.{eq_by_cmp, is_eq, ordering_reverse}
use Rattle.std.specs.declared.cmp.Ordering.TheVariants.{Less, Equal, Greater}
use Rattle.std.proofs.lemmas.List.Elements.{All-cons, All-nil}
use Rattle.pm_base.proofs.Laws.{AllByRecursion-append, AllByRecursion-parts}
use Rattle.pm_values.specs.Order.{Values, key_cmp, key_total}
use Rattle.pm_values.specs.declared.record.Stamped.{Stamped}
use Rattle.pm_model_history.specs.Merge.{HistoryRow}
use Rattle.pm_engine.specs.Covers.{CoversKey, Holds, IsRising, Run, of_key, row_of}
use Rattle.pm_engine.specs.Meaning.{Meaning, SpeaksFor}
use Rattle.pm_engine.specs.Reducing.{greatest_number}
use Rattle.pm_engine.proofs.Rising.{apart_back, tied}
use Rattle.pm_merge.specs.Merge.{AreStored, CoversTheSame, HasOwnKinds, HaveOwnKinds, IsMerge, all_rows}
use Rattle.pm_merge.specs.Merging.{BeginsFrom, GivesAll, GivesLeast, rows_past, runs_in}
use Rattle.pm_merge.specs.Source.{Rest}
use Rattle.pm_merge.proofs.GivenLemmas.{AllFrom, AreRising, SpeakFor, all_parts, all_past_above, all_past_other, all_past_rising, are_rising, at_first, past, past_other}
use Rattle.pm_merge.proofs.MergeLemmas as merged
use Rattle.pm_merge.proofs.MergeLemmas.{HaveParts, JoinsAt, all-filter, both_of}
use Rattle.pm_merge.proofs.OneLemmas.{IsOne, all_hold, below-none, is_the_row, merged-stored, not_first, split_rows, the_row}
use Rattle.pm_merge.proofs.RisingLemmas.{AllAbove, above-all, none_above, of_key-above, of_key-other, rising-parts}

-- ---- the first row

-- a key below all first rows isn't there
low_run : (low key : Values) (run : Run) → key_cmp low key ≡ Less → IsRising run → BeginsFrom key run → AllAbove low run
low_run low key [] less rising from = tt
low_run low key (s ∷ run) less rising (inl same) = above-all low s run (subst (λ k. key_cmp low k ≡ Less) same less) rising
low_run low key (s ∷ run) less rising (inr more) = above-all low s run (key_total.trans low key s.key less more) rising

low_rows : (low key : Values) (rests : List Rest) → key_cmp low key ≡ Less → AreRising rests → AllFrom key rests → AllAbove low (all_rows (runs_in rests))
low_rows low key [] less rising from = tt
low_rows low key (r ∷ rests) less rising from =
    AllByRecursion-append (λ (s : Stamped). key_cmp low s.key ≡ Less) r.rows (all_rows (runs_in rests)) (low_run low key r.rows less rising.0 from.0) (low_rows low key rests less rising.1 from.1)

module _ (one : IsOne) (m : Meaning) (old : List Rest) (stored : AreStored m (runs_in old)) (s : Stamped) (new : List Rest) (least : GivesLeast m old s new) where
  rise : AreRising old
  rise = are_rising old stored.rising

  here : JoinsAt m (runs_in old) s.key (s ∷ [])
  here = at_first m old rise s new least

  -- it is the stored row of its key's rows
  is_stored : s ≡ the_row m (all_rows (runs_in old)) s.key
  is_stored =
      let parts = map (λ (run : Run). map row_of (of_key s.key run)) (runs_in old) in
      let rows : List HistoryRow = map row_of (of_key s.key (all_rows (runs_in old))) in
      let speaks : SpeaksFor m s.key (row_of s) rows = subst (SpeaksFor m s.key (row_of s)) (sym (split_rows s.key (runs_in old))) (here.holds parts (all_hold m s.key (runs_in old) stored.rising stored.speak)) in
      let own : HaveOwnKinds m (of_key s.key (all_rows (runs_in old))) = all-filter (λ (t : Stamped). t.kind ≡ m.kind (row_of t ∷ [])) (λ (t : Stamped). eq_by_cmp key_cmp s.key t.key) (all_rows (runs_in old)) stored.kinds in
      is_the_row m (all_rows (runs_in old)) s (one m s.key (row_of s) rows speaks (here.kind own).kind) here.number.1

  -- so it is the first one of the merge
  same_key : (w : Stamped) (later : Run) → IsMerge m (runs_in old) (w ∷ later) → w.key ≡ s.key
  same_key w later is =
      elim (key_cmp w.key s.key) as (λ o. key_cmp w.key s.key ≡ o → w.key ≡ s.key) [
        | Less ↦ λ e. absurd (not_first w later ((is.keys w.key).1 (of_key-above w.key (all_rows (runs_in old)) (low_rows w.key s.key old e rise least.least))))
        | Equal ↦ λ e. tied w.key s.key (ap is_eq e)
        | Greater ↦ λ e. absurd (here.number.0 ((is.keys s.key).0 (below-none s.key w later is.rising (key_total.antisymm s.key w.key ∙ ap ordering_reverse e))))
      ] refl

  same_row : (w : Stamped) (later : Run) → IsMerge m (runs_in old) (w ∷ later) → w ≡ s
  same_row w later is =
      let are = merged-stored one m (runs_in old) (w ∷ later) stored is in
      is_the_row m (all_rows (runs_in old)) w are.0 is.numbers.0 ∙ ap (the_row m (all_rows (runs_in old))) (same_key w later is) ∙ sym is_stored

-- ---- what is left

past_run : (key : Values) (P : Stamped → Type 0) (run : Run) → AllByRecursion P run → AllByRecursion P (rows_past key run)
past_run key P [] all = tt
past_run key P (x ∷ run) all =
    elim (eq_by_cmp key_cmp key x.key) as (λ b. AllByRecursion P (cond b run (x ∷ run))) [
      | true ↦ all.1
      | false ↦ all
    ]

past_all : (key : Values) (P : Stamped → Type 0) (rests : List Rest) → AllByRecursion P (all_rows (runs_in rests)) → AllByRecursion P (all_rows (runs_in (past key rests)))
past_all key P [] all = tt
past_all key P (r ∷ rests) all =
    let parts = AllByRecursion-parts P r.rows (all_rows (runs_in rests)) all in
    AllByRecursion-append P (rows_past key r.rows) (all_rows (runs_in (past key rests))) (past_run key P r.rows parts.0) (past_all key P rests parts.1)

all_rise : (rests : List Rest) → AreRising rests → All IsRising (runs_in rests)
all_rise [] rising = All-nil IsRising
all_rise (r ∷ rests) rising = All-cons IsRising r.rows (runs_in rests) rising.0 (all_rise rests rising.1)

left_stored : (m : Meaning) (old : List Rest) (s : Stamped) → AreStored m (runs_in old) → AreStored m (runs_in (past s.key old))
left_stored m old s stored = record {
  rising = all_rise (past s.key old) (all_past_rising s.key old (are_rising old stored.rising));
  speak = past_all s.key (λ (t : Stamped). SpeaksFor m t.key (row_of t) (row_of t ∷ [])) old stored.speak;
  kinds = past_all s.key (λ (t : Stamped). t.kind ≡ m.kind (row_of t ∷ [])) old stored.kinds;
}

parts_back : (m : Meaning) (key other : Values) → eq_by_cmp key_cmp other key ≡ false → (rests : List Rest) (parts : List (List HistoryRow)) → HaveParts m other (runs_in (past key rests)) parts
    → HaveParts m other (runs_in rests) parts
parts_back m key other differs [] [] holds = tt
parts_back m key other differs [] (p ∷ ps) holds = absurd holds
parts_back m key other differs (r ∷ rests) [] holds = absurd holds
parts_back m key other differs (r ∷ rests) (p ∷ ps) holds =
    (subst (λ (own : Run). Holds m other own p) (past_other key other r.rows differs) holds.0, parts_back m key other differs rests ps holds.1)

-- runs that have nothing of a key hold no part of its rows
no_part : (m : Meaning) (key : Values) (runs : List Run) (parts : List (List HistoryRow)) → of_key key (all_rows runs) ≡ [] → HaveParts m key runs parts → merged.joined parts ≡ []
no_part m key runs parts none holds =
    let (kept, speak, same) = all_parts m key runs parts holds in
    sym same ∙ ap merged.joined (nothing kept (subst (λ (rows : Run). SpeakFor m key rows kept) none speak))
  where
    nothing : (kept : List (List HistoryRow)) → SpeakFor m key [] kept → kept ≡ []
    nothing [] speak = refl
    nothing (p ∷ ps) speak = absurd speak

-- what a run holds of a key that isn't the first one's
holds_later : (m : Meaning) (key : Values) (w : Stamped) (later : Run) (parts : List (List HistoryRow)) → eq_by_cmp key_cmp key w.key ≡ false → HaveParts m key ((w ∷ later) ∷ []) parts → HaveParts m key (later ∷ []) parts
holds_later m key w later [] differs holds = absurd holds
holds_later m key w later (p ∷ ps) differs holds = (subst (λ (own : Run). Holds m key own p) (of_key-other key w later differs) holds.0, holds.1)

module _ (m : Meaning) (old : List Rest) (rising : AreRising old) (s : Stamped) (later : Run) (from : AllFrom s.key old) (is : IsMerge m (runs_in old) (s ∷ later)) where
  abbrev rows_left : Run
  rows_left = all_rows (runs_in (past s.key old))

  above : AllAbove s.key later
  above = (rising-parts s later is.rising).0

  none_left : (key : Values) → eq_by_cmp key_cmp key s.key ≡ true → of_key key rows_left ≡ []
  none_left key e = none_above key s rows_left e (all_past_above s.key old rising from)

  other_rows : (key : Values) → eq_by_cmp key_cmp key s.key ≡ false → of_key key rows_left ≡ of_key key (all_rows (runs_in old))
  other_rows key e = all_past_other s.key key e old

  covers_left : CoversTheSame m (runs_in (past s.key old)) later
  covers_left key missing rows covers =
      elim (eq_by_cmp key_cmp key s.key) as (λ t. eq_by_cmp key_cmp key s.key ≡ t → CoversKey m key (later ∷ []) missing rows) [
        | true ↦ λ e. record {
          parts = [] ∷ [];
          split = covers.split ∙ ap (λ (xs : List HistoryRow). missing ++ xs) (no_part m key (runs_in (past s.key old)) covers.parts (none_left key e) covers.holds);
          holds = (subst (λ (own : Run). Holds m key own []) (sym (none_above key s later e above)) refl, tt);
        }
        | false ↦ λ e.
            let whole : CoversKey m key ((s ∷ later) ∷ []) missing rows =
            is.covers key missing rows (record { parts = covers.parts; split = covers.split; holds = parts_back m s.key key e old covers.parts covers.holds }) in
            record { parts = whole.parts; split = whole.split; holds = holds_later m key s later whole.parts e whole.holds }
      ] refl

  merge_left : IsMerge m (runs_in (past s.key old)) later
  merge_left = record {
    rising = (rising-parts s later is.rising).1;
    keys = λ key.
        elim (eq_by_cmp key_cmp key s.key) as (λ t. eq_by_cmp key_cmp key s.key ≡ t → (of_key key later ≡ []) ↔ (of_key key rows_left ≡ [])) [
          | true ↦ λ e. ((λ none. none_left key e), (λ none. none_above key s later e above))
          | false ↦ λ e. (
            (λ none. other_rows key e ∙ (is.keys key).0 (of_key-other key s later e ∙ none)),
            (λ none. sym (of_key-other key s later e) ∙ (is.keys key).1 (sym (other_rows key e) ∙ none)),
          )
        ] refl;
    numbers =
        both_of (λ (t : Stamped). key_cmp s.key t.key ≡ Less) (λ (t : Stamped). t.seq ≡ greatest_number (of_key t.key (all_rows (runs_in old)))) (λ (t : Stamped). t.seq ≡ greatest_number (of_key t.key rows_left))
        (λ t less number. number ∙ ap greatest_number (sym (other_rows t.key (apart_back s.key t.key less)))) later above is.numbers.1;
    kinds =
        both_of (λ (t : Stamped). key_cmp s.key t.key ≡ Less) (λ (t : Stamped). HasOwnKinds m t (of_key t.key (all_rows (runs_in old)))) (λ (t : Stamped). HasOwnKinds m t (of_key t.key rows_left))
        (λ t less kind. subst (HasOwnKinds m t) (sym (other_rows t.key (apart_back s.key t.key less))) kind) later above is.kinds.1;
    kept = λ key t.
        elim (eq_by_cmp key_cmp key s.key) as (λ b. eq_by_cmp key_cmp key s.key ≡ b → of_key key rows_left ≡ t ∷ [] → of_key key later ≡ t ∷ []) [
          | true ↦ λ e alone. let no : [] ≡ t ∷ [] = sym (none_left key e) ∙ alone in cc
          | false ↦ λ e alone. sym (of_key-other key s later e) ∙ is.kept key t (sym (other_rows key e) ∙ alone)
        ] refl;
    covers = covers_left;
  }

-- ---- rows one after another

pub given_prefix : IsOne → (m : Meaning) (first last : List Rest) (run whole : Run) → AreStored m (runs_in first) → GivesAll m first run last → IsMerge m (runs_in first) whole
    → (more : Run) × (whole ≡ run ++ more) × IsMerge m (runs_in last) more
given_prefix one m first last [] whole stored given is = (whole, refl, subst (λ (rs : List Rest). IsMerge m (runs_in rs) whole) (sym given) is)
given_prefix one m first last (s ∷ run) [] stored (later, least, given) is =
    absurd ((here one m first stored s later least).number.0 ((is.keys s.key).0 refl))
given_prefix one m first last (s ∷ run) (w ∷ others) stored (later, least, given) is =
    let same : w ≡ s = same_row one m first stored s later least w others is in
    let merge : IsMerge m (runs_in first) (s ∷ others) = subst (λ x. IsMerge m (runs_in first) (x ∷ others)) same is in
    let rest : IsMerge m (runs_in later) others = subst (λ (rs : List Rest). IsMerge m (runs_in rs) others) (sym least.left) (merge_left m first (are_rising first stored.rising) s others least.least merge) in
    let now : AreStored m (runs_in later) = subst (λ (rs : List Rest). AreStored m (runs_in rs)) (sym least.left) (left_stored m first s stored) in
    let (more, parts, after) = given_prefix one m later last run others now given rest in
    (more, (λ i. same i ∷ parts i), after)
