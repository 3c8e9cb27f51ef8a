-- Of runs of stored rows there is one merge: each key has the stored row of its rows.
use Rattle.std.proofs.Common.{◌≡◌, ◌≢◌, zero, List, [], ◌∷◌, ◌++◌, map, All, true, false, refl, sym, ap, subst, ◌∙◌, append-nil, arith}
use Rattle.std.specs.List.{AllByRecursion, AllZip, flat_map}
use Rattle.std.specs.Ordering.{eq_by_cmp, is_eq, ordering_reverse}
use Rattle.std.specs.declared.cmp.Ordering.TheVariants.{Less, Equal, Greater}
use Rattle.std.proofs.lemmas.List.{map-append}
use Rattle.std.proofs.lemmas.List.Elements.{All-cons, All-nil, All-tail, filter-append}
use Rattle.pm_base.proofs.Laws.{AllByRecursion-append, AllByRecursion-parts}
use Rattle.pm_values.specs.Order.{Values, key_cmp, key_total}
use Rattle.pm_values.specs.declared.record.Stamped.{Stamped}
use Rattle.pm_model_history.specs.Merge.{HistoryRow}
use Rattle.pm_engine.specs.Covers.{Covers, CoversKey, Holds, IsRising, Run, of_key, row_of}
use Rattle.pm_engine.specs.Meaning.{KindsAreOwn, Meaning, SpeaksFor, stored_of}
use Rattle.pm_engine.specs.Reducing.{AreStoredRows, HasKindOf, greatest_number}
use Rattle.pm_engine.proofs.Rising.{tied, ties_itself}
use Rattle.pm_merge.specs.Merge.{AreStored, HasOwnKinds, IsMerge, all_rows}
use Rattle.pm_merge.proofs.MergeLemmas.{all-filter, alone, each_of, whole_part}
use Rattle.pm_merge.proofs.RisingLemmas.{above-rest, none_above, of_key-above, of_key-first, of_key-here, of_key-other, rising-parts}

-- ---- the row of a key

-- what all runs have of a key, run by run
pub split_rows : (key : Values) (runs : List Run) → map row_of (of_key key (all_rows runs)) ≡ flat_map (λ part. part) (map (λ (run : Run). map row_of (of_key key run)) runs)
split_rows key [] = refl
split_rows key (run ∷ runs) =
    ap (map row_of) (filter-append (λ (s : Stamped). eq_by_cmp key_cmp key s.key) run (all_rows runs)) ∙ map-append row_of (of_key key run) (of_key key (all_rows runs))
    ∙ ap (λ xs. map row_of (of_key key run) ++ xs) (split_rows key runs)

-- a run holds of a key what it has of it
holds_own : (m : Meaning) (key : Values) (run : Run) → IsRising run → AllByRecursion (λ (s : Stamped). SpeaksFor m s.key (row_of s) (row_of s ∷ [])) run → Holds m key (of_key key run) (map row_of (of_key key run))
holds_own m key [] rising speak = refl
holds_own m key (s ∷ run) rising speak =
    let parts = rising-parts s run rising in
    elim (eq_by_cmp key_cmp key s.key) as (λ t. eq_by_cmp key_cmp key s.key ≡ t → Holds m key (of_key key (s ∷ run)) (map row_of (of_key key (s ∷ run)))) [
      | true ↦ λ e. subst (λ own. Holds m key own (map row_of own)) (sym (of_key-first key s run e parts.0)) (subst (λ k. SpeaksFor m k (row_of s) (row_of s ∷ [])) (sym (tied key s.key e)) speak.0)
      | false ↦ λ e. subst (λ own. Holds m key own (map row_of own)) (sym (of_key-other key s run e)) (holds_own m key run parts.1 speak.1)
    ] refl

pub all_hold : (m : Meaning) (key : Values) (runs : List Run) → All IsRising runs → AllByRecursion (λ (s : Stamped). SpeaksFor m s.key (row_of s) (row_of s ∷ [])) (all_rows runs)
    → AllZip (λ (run : Run) (part : List HistoryRow). Holds m key (of_key key run) part) runs (map (λ (run : Run). map row_of (of_key key run)) runs)
all_hold m key [] rising speak = tt
all_hold m key (run ∷ runs) rising speak =
    let parts = AllByRecursion-parts (λ (s : Stamped). SpeaksFor m s.key (row_of s) (row_of s ∷ [])) run (all_rows runs) speak in
    (holds_own m key run (rising zero run (omega arith)) parts.0, all_hold m key runs (All-tail IsRising run runs rising) parts.1)

-- a row of a merge that is alone of its key speaks for what the runs have of it
merged_speaks : (m : Meaning) (runs : List Run) (run : Run) → AreStored m runs → IsMerge m runs run → (s : Stamped) → of_key s.key run ≡ s ∷ []
    → SpeaksFor m s.key (row_of s) (map row_of (of_key s.key (all_rows runs)))
merged_speaks m runs run stored is s own =
    let rows : List HistoryRow = map row_of (of_key s.key (all_rows runs)) in
    let before : CoversKey m s.key runs [] rows = record { parts = map (λ (run : Run). map row_of (of_key s.key run)) runs; split = split_rows s.key runs; holds = all_hold m s.key runs stored.rising stored.speak } in
    subst (λ o. Holds m s.key o rows) own (whole_part m s.key run rows (is.covers s.key [] rows before))

abbrev pub IsOne : Type 0
IsOne = (m : Meaning) (key : Values) (stored : HistoryRow) (rows : List HistoryRow) → SpeaksFor m key stored rows → stored.0 ≡ m.kind rows → stored ≡ stored_of m rows

-- the rows of a merge are the stored rows of their keys
pub merged-stored : IsOne → (m : Meaning) (runs : List Run) (run : Run) → AreStored m runs → IsMerge m runs run → AreStoredRows m run (all_rows runs)
merged-stored one m runs run stored is = each run (alone run is.rising) (each_of (λ (s : Stamped). HasOwnKinds m s (of_key s.key (all_rows runs))) (λ (s : Stamped). HasKindOf m s (of_key s.key (all_rows runs))) has_kind run is.kinds)
  where
    has_kind : (s : Stamped) → HasOwnKinds m s (of_key s.key (all_rows runs)) → HasKindOf m s (of_key s.key (all_rows runs))
    has_kind s of_own = of_own (all-filter (λ (t : Stamped). t.kind ≡ m.kind (row_of t ∷ [])) (λ (t : Stamped). eq_by_cmp key_cmp s.key t.key) (all_rows runs) stored.kinds)

    each : (ss : Run) → AllByRecursion (λ (s : Stamped). of_key s.key run ≡ s ∷ []) ss → AllByRecursion (λ (s : Stamped). HasKindOf m s (of_key s.key (all_rows runs))) ss → AreStoredRows m ss (all_rows runs)
    each [] own kinds = tt
    each (s ∷ ss) own kinds = (one m s.key (row_of s) (map row_of (of_key s.key (all_rows runs))) (merged_speaks m runs run stored is s own.0) kinds.0.kind, each ss own.1 kinds.1)

-- ---- the keys

-- a key of which a run has nothing isn't its first one
pub not_first : (x : Stamped) (xs : Run) → of_key x.key (x ∷ xs) ≢ []
not_first x xs = λ none. let no : x ∷ of_key x.key xs ≡ [] = sym (of_key-here x.key x xs (ties_itself x.key)) ∙ none in cc

-- where one run has nothing of a key, the other hasn't either
abbrev HasNoMore : Run → Run → Type 0
HasNoMore one other = (key : Values) → of_key key one ≡ [] → of_key key other ≡ []

later_no_more : (x y : Stamped) (xs ys : Run) → x.key ≡ y.key → IsRising (y ∷ ys) → HasNoMore (x ∷ xs) (y ∷ ys) → HasNoMore xs ys
later_no_more x y xs ys same rising no_more key none =
    elim (eq_by_cmp key_cmp key y.key) as (λ t. eq_by_cmp key_cmp key y.key ≡ t → of_key key ys ≡ []) [
      | true ↦ λ e. none_above key y ys e (rising-parts y ys rising).0
      | false ↦ λ e. sym (of_key-other key y ys e) ∙ no_more key (of_key-other key x xs (ap (eq_by_cmp key_cmp key) same ∙ e) ∙ none)
    ] refl

-- a key below the first one isn't there
pub below-none : (key : Values) (y : Stamped) (ys : Run) → IsRising (y ∷ ys) → key_cmp key y.key ≡ Less → of_key key (y ∷ ys) ≡ []
below-none key y ys rising less = of_key-above key (y ∷ ys) (less, above-rest key y.key ys less (rising-parts y ys rising).0)

-- rising runs that have the same keys have them in one order
same_keys : (one other : Run) → IsRising one → IsRising other → HasNoMore one other → HasNoMore other one → map (λ (s : Stamped). s.key) one ≡ map (λ (s : Stamped). s.key) other
same_keys [] [] rising_one rising_other there back = refl
same_keys [] (y ∷ ys) rising_one rising_other there back = absurd (not_first y ys (there y.key refl))
same_keys (x ∷ xs) [] rising_one rising_other there back = absurd (not_first x xs (back x.key refl))
same_keys (x ∷ xs) (y ∷ ys) rising_one rising_other there back =
    elim (key_cmp x.key y.key) as (λ o. key_cmp x.key y.key ≡ o → map (λ (s : Stamped). s.key) (x ∷ xs) ≡ map (λ (s : Stamped). s.key) (y ∷ ys)) [
      | Less ↦ λ e. absurd (not_first x xs (back x.key (below-none x.key y ys rising_other e)))
      | Equal ↦ λ e.
          let same : x.key ≡ y.key = tied x.key y.key (ap is_eq e) in
          let rest = same_keys xs ys (rising-parts x xs rising_one).1 (rising-parts y ys rising_other).1 (later_no_more x y xs ys same rising_other there) (later_no_more y x ys xs (sym same) rising_one back) in
          λ i. same i ∷ rest i
      | Greater ↦ λ e. absurd (not_first y ys (there y.key (below-none y.key x xs rising_one (key_total.antisymm y.key x.key ∙ ap ordering_reverse e))))
    ] refl

-- ---- the merge

-- the stored row of the rows of a key, with the greatest number of these
pub the_row : Meaning → Run → Values → Stamped
the_row m rows key = record { key = key; seq = greatest_number (of_key key rows); kind = (stored_of m (map row_of (of_key key rows))).0; row = (stored_of m (map row_of (of_key key rows))).1 }

pub is_the_row : (m : Meaning) (rows : Run) (s : Stamped) → row_of s ≡ stored_of m (map row_of (of_key s.key rows)) → s.seq ≡ greatest_number (of_key s.key rows) → s ≡ the_row m rows s.key
unfolding the_row
is_the_row m rows s same number = λ i. record { key = s.key; seq = number i; kind = (same i).0; row = (same i).1 }

by_keys : (m : Meaning) (rows run : Run) → AreStoredRows m run rows → AllByRecursion (λ (s : Stamped). s.seq ≡ greatest_number (of_key s.key rows)) run
    → run ≡ map (the_row m rows) (map (λ (s : Stamped). s.key) run)
unfolding the_row
by_keys m rows [] stored numbers = refl
by_keys m rows (s ∷ ss) stored numbers =
    let same : s ≡ the_row m rows s.key = is_the_row m rows s stored.0 numbers.0 in
    let rest = by_keys m rows ss stored.1 numbers.1 in
    λ i. same i ∷ rest i

pub one-merge : IsOne → (m : Meaning) (runs : List Run) (one other : Run) → AreStored m runs → IsMerge m runs one → IsMerge m runs other → one ≡ other
one-merge is_one m runs one other stored a b =
    by_keys m (all_rows runs) one (merged-stored is_one m runs one stored a) a.numbers
    ∙ ap (map (the_row m (all_rows runs)))
    (same_keys one other a.rising b.rising (λ key none. (b.keys key).1 ((a.keys key).0 none)) (λ key none. (a.keys key).1 ((b.keys key).0 none)))
    ∙ sym (by_keys m (all_rows runs) other (merged-stored is_one m runs other stored b) b.numbers)

-- ---- runs that cover rows

HoldsSome : Meaning → Run → Type 0
HoldsSome m run = (key : Values) → (part : List HistoryRow) × Holds m key (of_key key run) part

first_holds : (m : Meaning) (key : Values) (run : Run) (runs : List Run) (parts : List (List HistoryRow)) → AllZip (λ (run : Run) (part : List HistoryRow). Holds m key (of_key key run) part) (run ∷ runs) parts
    → (part : List HistoryRow) × Holds m key (of_key key run) part
first_holds m key run runs [] holds = absurd holds
first_holds m key run runs (p ∷ ps) holds = (p, holds.0)

later_hold : (m : Meaning) (key : Values) (run : Run) (runs : List Run) (parts : List (List HistoryRow)) → AllZip (λ (run : Run) (part : List HistoryRow). Holds m key (of_key key run) part) (run ∷ runs) parts
    → (later : List (List HistoryRow)) × AllZip (λ (run : Run) (part : List HistoryRow). Holds m key (of_key key run) part) runs later
later_hold m key run runs [] holds = absurd holds
later_hold m key run runs (p ∷ ps) holds = (ps, holds.1)

each_holds : (m : Meaning) (runs : List Run) → ((key : Values) → (parts : List (List HistoryRow)) × AllZip (λ (run : Run) (part : List HistoryRow). Holds m key (of_key key run) part) runs parts)
    → AllByRecursion (HoldsSome m) runs
unfolding HoldsSome
each_holds m [] all = tt
each_holds m (run ∷ runs) all =
    ((λ key. let at = all key in first_holds m key run runs at.0 at.1), each_holds m runs (λ key. let at = all key in later_hold m key run runs at.0 at.1))

abbrev IsItself : Type 0
IsItself = (m : Meaning) (key : Values) (stored : HistoryRow) (rows : List HistoryRow) → SpeaksFor m key stored rows → SpeaksFor m key stored (stored ∷ [])

-- each row of such a run speaks for itself
speak_themselves : IsItself → (m : Meaning) (run : Run) → IsRising run → HoldsSome m run → AllByRecursion (λ (s : Stamped). SpeaksFor m s.key (row_of s) (row_of s ∷ [])) run
unfolding HoldsSome
speak_themselves itself m run rising holds = each run (alone run rising)
  where
    each : (ss : Run) → AllByRecursion (λ (s : Stamped). of_key s.key run ≡ s ∷ []) ss → AllByRecursion (λ (s : Stamped). SpeaksFor m s.key (row_of s) (row_of s ∷ [])) ss
    each [] own = tt
    each (s ∷ ss) own =
        let at = holds s.key in
        let speaks : SpeaksFor m s.key (row_of s) at.0 = subst (λ o. Holds m s.key o at.0) own.0 at.1 in
        (itself m s.key (row_of s) at.0 speaks, each ss own.1)

all_speak : IsItself → (m : Meaning) (runs : List Run) → All IsRising runs → AllByRecursion (HoldsSome m) runs → AllByRecursion (λ (s : Stamped). SpeaksFor m s.key (row_of s) (row_of s ∷ [])) (all_rows runs)
all_speak itself m [] rising holds = tt
all_speak itself m (run ∷ runs) rising holds =
    AllByRecursion-append (λ (s : Stamped). SpeaksFor m s.key (row_of s) (row_of s ∷ [])) run (all_rows runs) (speak_themselves itself m run (rising zero run (omega arith)) holds.0)
    (all_speak itself m runs (All-tail IsRising run runs rising) holds.1)

-- with kinds that are their own, each row has its own
own_kinds : (m : Meaning) (rows : Run) → KindsAreOwn m → AllByRecursion (λ (s : Stamped). SpeaksFor m s.key (row_of s) (row_of s ∷ [])) rows → AllByRecursion (λ (s : Stamped). s.kind ≡ m.kind (row_of s ∷ [])) rows
own_kinds m [] own speak = tt
own_kinds m (s ∷ ss) own speak = (sym (own (row_of s) speak.0.kind), own_kinds m ss own speak.1)

-- runs that cover rows are runs of stored rows
pub found-stored : IsItself → (m : Meaning) (runs : List Run) (rows : List HistoryRow) → KindsAreOwn m → All IsRising runs → Covers m runs rows → AreStored m runs
found-stored itself m runs rows own rising covers =
    let speak = all_speak itself m runs rising (each_holds m runs (λ key. let at = (covers key).2 in (at.parts, at.holds))) in
    record { rising = rising; speak = speak; kinds = own_kinds m (all_rows runs) own speak }

-- ---- a merge as a run of stored rows

-- with kinds that are their own, a merge of runs of stored rows is one
pub merged-again : IsItself → (m : Meaning) (runs : List Run) (run : Run) → KindsAreOwn m → AreStored m runs → IsMerge m runs run → AreStored m (run ∷ [])
merged-again itself m runs run own stored is =
    let speak = subst (AllByRecursion (λ (s : Stamped). SpeaksFor m s.key (row_of s) (row_of s ∷ []))) (sym (append-nil run)) each in
    record { rising = All-cons IsRising run [] is.rising (All-nil IsRising); speak = speak; kinds = own_kinds m (all_rows (run ∷ [])) own speak }
  where
    each : AllByRecursion (λ (s : Stamped). SpeaksFor m s.key (row_of s) (row_of s ∷ [])) run
    each =
        each_of (λ (s : Stamped). of_key s.key run ≡ s ∷ []) (λ (s : Stamped). SpeaksFor m s.key (row_of s) (row_of s ∷ []))
        (λ s at. itself m s.key (row_of s) (map row_of (of_key s.key (all_rows runs))) (merged_speaks m runs run stored is s at)) run (alone run is.rising)
