-- What the shown rows of one group have of a key.
use Rattle.std.proofs.Common.{◌≡◌, ◌≢◌, ℕ, suc, ◌+◌, List, [], ◌∷◌, ◌++◌, length, map, filter, Bool, true, false, cond, Option, Some, None, Less, refl, sym, ap, subst, ◌∙◌, append_assoc, length-append}
use Rattle.std.specs.List.{AllByRecursion, AllZip, range_with_len}
use Rattle.std.specs.List.Sorted.{IsStrictlySortedBy}
use Rattle.std.specs.Ordering.{eq_by_cmp}
use Rattle.std.proofs.Math.Seq.{get_or-append_seam}
use Rattle.pm_options.specs.declared.kinds.EngineKind.{EngineKind}
use Rattle.pm_options.specs.declared.kinds.EngineKind.TheVariants.{Deduplicate, FirstRow, PartialUpdate, Aggregation}
use Rattle.pm_values.specs.Fits.{Fits}
use Rattle.pm_values.specs.Order.{Values, key_cmp}
use Rattle.pm_values.specs.declared.column.Column.{Column}
use Rattle.pm_values.specs.declared.record.Stamped.{Stamped}
use Rattle.pm_values.specs.declared.value.Value.TheVariants.{Null}
use Rattle.pm_schema.specs.declared.schema.TableSchema.{TableSchema}
use Rattle.pm_model_history.specs.ColumnValue.{column_value}
use Rattle.pm_model_history.specs.Merge.{HistoryRow, rows_of, value_at}
use Rattle.pm_model_history.specs.Merged.{primary_of, shows, shows_by, values_of}
use Rattle.pm_engine.specs.Covers.{Covers, Holds, IsRising, Run, of_key, row_of, stored_rows}
use Rattle.pm_engine.specs.Meaning.{Meaning, SameWorth, SpeaksFor}
use Rattle.pm_engine.specs.OfSchema.{meaning_of}
use Rattle.pm_merge.specs.Merge.{IsMerge}
use Rattle.pm_scan_rows.specs.Shown.{IsShown, only_shown}
use Rattle.pm_scan_rows.proofs.GroupLemmas.{filter-swap}

-- ---- what covering says of a key

abbrev pub IsWorth : Type 0
IsWorth =
    (m : Meaning) (runs : List Run) (rows : List HistoryRow) (key : Values) → Covers m runs rows → stored_rows key runs ≢ []
    → SameWorth m (rows_of m.primary key rows) (stored_rows key runs)

abbrev pub IsHidden : Type 0
IsHidden =
    (m : Meaning) (runs : List Run) (rows : List HistoryRow) (key : Values) → Covers m runs rows → stored_rows key runs ≡ []
    → rows_of m.primary key rows ≢ [] → m.shows (rows_of m.primary key rows) ≡ false

-- ---- the row of a key over its rows

abbrev pub row_over : TableSchema → List HistoryRow → Option Values
row_over s rows = cond (shows s rows) (Some (values_of s rows)) None

-- what a run has of a key is what is at the key: its one row, or nothing
abbrev pub IsAt : Option Values → Run → Type 0
IsAt at [] = at ≡ None
IsAt at (x ∷ []) = at ≡ Some x.row
IsAt at (x ∷ y ∷ more) = ⊥

pub at-none : (at : Option Values) (own : Run) → at ≡ None → IsAt at own → own ≡ []
at-none at [] none is = refl
at-none at (x ∷ []) none is = cc
at-none at (x ∷ y ∷ more) none is = absurd is

-- with no engine a key without rows shows
shows_by-none : (engine : EngineKind) → shows_by engine [] ≡ false
shows_by-none Deduplicate = refl
shows_by-none FirstRow = refl
shows_by-none PartialUpdate = refl
shows_by-none Aggregation = refl

pub row_over-hidden : (s : TableSchema) (rows : List HistoryRow) → shows s rows ≡ false → row_over s rows ≡ None
row_over-hidden s rows hidden = ap (λ b. cond b (Some (values_of s rows)) None) hidden

pub row_over-nil : (s : TableSchema) → row_over s [] ≡ None
row_over-nil s = row_over-hidden s [] (shows_by-none s.options.engine)

row_over-none : (s : TableSchema) (rows : List HistoryRow) → (rows ≢ [] → shows s rows ≡ false) → row_over s rows ≡ None
row_over-none s [] hidden = row_over-nil s
row_over-none s (r ∷ rows) hidden = row_over-hidden s (r ∷ rows) (hidden (λ e. cc))

-- the values at the indexes of a list are the list
values_at_indexes : (before after : Values) → map (λ index. value_at (before ++ after) index) (range_with_len (length before) (length after)) ≡ after
values_at_indexes before [] = refl
values_at_indexes before (v ∷ vs) =
    let here : value_at (before ++ v ∷ vs) (length before) ≡ v = get_or-append_seam before v vs Null in
    let longer : length (before ++ v ∷ []) ≡ length before + 1 = length-append before (v ∷ []) in
    let rest : map (λ index. value_at (before ++ v ∷ vs) index) (range_with_len (length before + 1) (length vs)) ≡ vs =
    subst (λ n. map (λ index. value_at (before ++ v ∷ vs) index) (range_with_len n (length vs)) ≡ vs) longer
    (subst (λ xs. map (λ index. value_at xs index) (range_with_len (length (before ++ v ∷ [])) (length vs)) ≡ vs) (append_assoc before (v ∷ []) vs) (values_at_indexes (before ++ v ∷ []) vs)) in
    λ i. here i ∷ rest i

length-fits : (columns : List Column) (values : Values) → Fits columns values → length values ≡ length columns
length-fits [] [] fits = refl
length-fits [] (v ∷ vs) fits = absurd fits
length-fits (c ∷ cs) [] fits = absurd fits
length-fits (c ∷ cs) (v ∷ vs) fits = ap suc (length-fits cs vs fits.1)

-- where the rows are worth what one stored row is, their row is its own
row-stored : (s : TableSchema) (key : Values) (x : Stamped) (part rows : List HistoryRow) → SpeaksFor (meaning_of s) key (row_of x) part → SameWorth (meaning_of s) rows (row_of x ∷ []) → values_of s rows ≡ x.row
row-stored s key x part rows speaks same =
    let is : (index : ℕ) → column_value s index rows ≡ value_at x.row index = λ index. same.value index ∙ speaks.alone index in
    (λ i. map (λ index. is index i) (range_with_len 0 (length s.columns)))
    ∙ subst (λ n. map (λ index. value_at x.row index) (range_with_len 0 n) ≡ x.row) (length-fits s.columns x.row speaks.taken.fits) (values_at_indexes [] x.row)

-- ---- the rows that show

above-filter : (p : Stamped → Bool) (key : Values) (run : Run) → AllByRecursion (λ k. key_cmp key k ≡ Less) (map (λ (x : Stamped). x.key) run)
    → AllByRecursion (λ k. key_cmp key k ≡ Less) (map (λ (x : Stamped). x.key) (filter p run))
above-filter p key [] above = tt
above-filter p key (x ∷ run) above =
    elim (p x) as (λ b. AllByRecursion (λ k. key_cmp key k ≡ Less) (map (λ (x : Stamped). x.key) (cond b (x ∷ filter p run) (filter p run)))) [
      | true ↦ (above.0, above-filter p key run above.1)
      | false ↦ above-filter p key run above.1
    ]

rising-filter : (p : Stamped → Bool) (run : Run) → IsRising run → IsRising (filter p run)
unfolding IsStrictlySortedBy
rising-filter p [] rising = tt
rising-filter p (x ∷ run) rising =
    elim (p x) as (λ b. IsRising (cond b (x ∷ filter p run) (filter p run))) [
      | true ↦ (above-filter p x.key run rising.0, rising-filter p run rising.1)
      | false ↦ rising-filter p run rising.1
    ]

pub shown-rising : (m : Meaning) (run shown : Run) → IsRising run → shown ≡ only_shown m run → IsRising shown
shown-rising m run shown rising is = subst IsRising (sym is) (rising-filter (λ (x : Stamped). m.shows (row_of x ∷ [])) run rising)

-- ---- one group

own-at : (s : TableSchema) (key : Values) (own : Run) (part rows : List HistoryRow) → Holds (meaning_of s) key own part → (own ≡ [] → rows ≢ [] → shows s rows ≡ false)
    → (own ≢ [] → SameWorth (meaning_of s) rows (map row_of own ++ [])) → IsAt (row_over s rows) (only_shown (meaning_of s) own)
own-at s key [] part rows holds hidden worth = row_over-none s rows (hidden refl)
own-at s key (x ∷ []) part rows holds hidden worth =
    let same : SameWorth (meaning_of s) rows (row_of x ∷ []) = worth (λ e. cc) in
    elim (shows s (row_of x ∷ [])) as (λ b. shows s (row_of x ∷ []) ≡ b → IsAt (row_over s rows) (cond b (x ∷ []) [])) [
      | true ↦ λ e. ap (λ b. cond b (Some (values_of s rows)) None) (same.shows ∙ e) ∙ ap Some (row-stored s key x part rows holds same)
      | false ↦ λ e. row_over-hidden s rows (same.shows ∙ e)
    ] refl
own-at s key (x ∷ y ∷ more) part rows holds hidden worth = absurd holds

only_part : (m : Meaning) (key : Values) (run : Run) (parts : List (List HistoryRow)) → AllZip (λ (run : Run) (part : List HistoryRow). Holds m key (of_key key run) part) (run ∷ []) parts
    → (part : List HistoryRow) × Holds m key (of_key key run) part
only_part m key run [] holds = absurd holds
only_part m key run (p ∷ ps) holds = (p, holds.0)

no_rows : (own : Run) → map row_of own ++ [] ≡ [] → own ≡ []
no_rows [] none = refl
no_rows (x ∷ own) none = cc

-- where the runs of a group cover rows, the rows that it shows have of a key what the rows come to
pub group-at : IsWorth → IsHidden → (s : TableSchema) (key : Values) (runs : List Run) (shown : Run) (rows : List HistoryRow) → Covers (meaning_of s) runs rows → IsShown (meaning_of s) runs shown
    → IsAt (row_over s (rows_of (primary_of s) key rows)) (of_key key shown)
group-at worth hidden s key runs shown rows covers is =
    let m : Meaning = meaning_of s in
    let merged : Run = is.0 in
    let merge : IsMerge m runs merged = is.1 in
    let all : Covers m (merged ∷ []) rows = λ k. let at = covers k in (at.0, at.1, merge.covers k at.0 (rows_of m.primary k rows) at.2) in
    let own : Run = of_key key merged in
    let part = only_part m key merged (all key).2.parts (all key).2.holds in
    subst (IsAt (row_over s (rows_of (primary_of s) key rows))) (sym (ap (of_key key) is.2 ∙ filter-swap (λ (x : Stamped). eq_by_cmp key_cmp key x.key) (λ (x : Stamped). m.shows (row_of x ∷ [])) merged))
    (own-at s key own part.0 (rows_of (primary_of s) key rows) part.1
    (λ none some. hidden m (merged ∷ []) rows key all (ap (λ o. map row_of o ++ []) none) some)
    (λ some. worth m (merged ∷ []) rows key all (λ none. some (no_rows own none))))
