-- A stored row is a function of the rows that it speaks for.
use Rattle.std.proofs.Common.{◌≡◌, ◌≢◌, ℕ, suc, ◌+◌, List, [], ◌∷◌, ◌++◌, length, map, true, cond, refl, sym, ap, subst, ◌∙◌, append_assoc, append-nil, length-append}
use Rattle.std.specs.List.{AllByRecursion, AllZip, flat_map, range_with_len}
use Rattle.std.specs.List.Sorted.{IsStrictlySortedBy}
use Rattle.std.specs.declared.cmp.Ordering.TheVariants.{Less}
use Rattle.std.proofs.Math.Seq.{get_or-append_seam}
use Rattle.pm_options.specs.declared.kinds.EngineKind.{EngineKind}
use Rattle.pm_options.specs.declared.kinds.EngineKind.TheVariants.{Deduplicate, FirstRow, PartialUpdate, Aggregation}
use Rattle.pm_schema.specs.declared.schema.TableSchema.{TableSchema}
use Rattle.pm_values.specs.Fits.{Fits}
use Rattle.pm_values.specs.Order.{Values, key_cmp}
use Rattle.pm_values.specs.declared.column.Column.{Column}
use Rattle.pm_values.specs.declared.kind.Kind.{Kind}
use Rattle.pm_values.specs.declared.kind.Kind.TheVariants.{Insert}
use Rattle.pm_values.specs.declared.record.Stamped.{Stamped}
use Rattle.pm_values.specs.declared.value.Value.TheVariants.{Null}
use Rattle.pm_model_history.specs.Merge.{HistoryRow, rows_of, value_at}
use Rattle.pm_model_history.specs.Taken.{stores_by}
use Rattle.pm_engine.specs.Covers.{Covers, CoversAll, CoversKey, Holds, IsKeyed, IsRising, Run, of_key, row_of, stored_rows}
use Rattle.pm_engine.specs.Meaning.{KindsAreOwn, Meaning, SameWorth, SpeaksFor, stored_of, values_over}
use Rattle.pm_engine.specs.OfSchema.{kind_by, meaning_of}
use Rattle.pm_engine.specs.Reducing.{AreStoredRows, HasKinds}
use Rattle.pm_engine.proofs.CoverLemmas.{covers-worth}
use Rattle.pm_engine.proofs.Facts.{SameWorth-same, SameWorth-trans}
use Rattle.pm_engine.proofs.ReduceLemmas.{keyed_rows}
use Rattle.pm_engine.proofs.Rising.{apart, apart_back, ties_itself}

-- ---- values

-- the values at the indexes of a list are the list
values_at_indexes : (before after : Values) → map (λ index. value_at (before ++ after) index) (range_with_len (length before) (length after)) ≡ after
values_at_indexes before [] = refl
values_at_indexes before (v ∷ vs) =
    let here : value_at (before ++ v ∷ vs) (length before) ≡ v = get_or-append_seam before v vs Null in
    let longer : length (before ++ v ∷ []) ≡ length before + 1 = length-append before (v ∷ []) in
    let rest : map (λ index. value_at (before ++ v ∷ vs) index) (range_with_len (length before + 1) (length vs)) ≡ vs =
    subst (λ n. map (λ index. value_at (before ++ v ∷ vs) index) (range_with_len n (length vs)) ≡ vs) longer
    (subst (λ xs. map (λ index. value_at xs index) (range_with_len (length (before ++ v ∷ [])) (length vs)) ≡ vs) (append_assoc before (v ∷ []) vs) (values_at_indexes (before ++ v ∷ []) vs)) in
    λ i. here i ∷ rest i

length-fits : (columns : List Column) (values : Values) → Fits columns values → length values ≡ length columns
length-fits [] [] fits = refl
length-fits [] (v ∷ vs) fits = absurd fits
length-fits (c ∷ cs) [] fits = absurd fits
length-fits (c ∷ cs) (v ∷ vs) fits = ap suc (length-fits cs vs fits.1)

-- where rows are worth what one stored row is, they are worth its own values
values-own : (m : Meaning) (key : Values) (stored : HistoryRow) (part rows : List HistoryRow) → SpeaksFor m key stored part → SameWorth m rows (stored ∷ []) → values_over m rows ≡ stored.1
values-own m key stored part rows speaks same =
    let is : (index : ℕ) → m.value index rows ≡ value_at stored.1 index = λ index. same.value index ∙ speaks.alone index in
    (λ i. map (λ index. is index i) (range_with_len 0 (length m.columns)))
    ∙ subst (λ n. map (λ index. value_at stored.1 index) (range_with_len 0 n) ≡ stored.1) (length-fits m.columns stored.1 speaks.taken.fits) (values_at_indexes [] stored.1)

-- ---- one stored row

-- a row that speaks for rows, and has their kind, is their stored row
pub stored-is : (m : Meaning) (key : Values) (stored : HistoryRow) (rows : List HistoryRow) → SpeaksFor m key stored rows → stored.0 ≡ m.kind rows → stored ≡ stored_of m rows
stored-is m key stored rows speaks kind =
    let same : SameWorth m rows (stored ∷ []) = SameWorth-trans m _ _ _ (SameWorth-same m _ _ (sym (append-nil rows))) (speaks.worth [] [] tt tt) in
    let values = sym (values-own m key stored rows rows speaks same) in
    λ i. (kind i, values i)

-- one that speaks for rows speaks for itself
pub speaks-itself : (m : Meaning) (key : Values) (stored : HistoryRow) (rows : List HistoryRow) → SpeaksFor m key stored rows → SpeaksFor m key stored (stored ∷ [])
speaks-itself m key stored rows speaks = record {
  some = λ e. cc;
  all_taken = (speaks.taken, tt);
  taken = speaks.taken;
  kind = speaks.kind;
  alone = speaks.alone;
  worth = λ before after _ _. SameWorth-same m _ _ refl;
}

-- the kinds that stored rows may have are their own
kind-own : (engine : EngineKind) (kind : Kind) (row : Values) → stores_by engine kind ≡ true → kind_by engine ((kind, row) ∷ []) ≡ kind
kind-own Deduplicate kind row may = refl
kind-own FirstRow kind row may = refl
kind-own PartialUpdate Insert row may = refl
kind-own PartialUpdate kind row may = cc
kind-own Aggregation Insert row may = refl
kind-own Aggregation kind row may = cc

pub own-kind : (s : TableSchema) → KindsAreOwn (meaning_of s)
own-kind s r may = kind-own s.options.engine r.0 r.1 may

-- ---- a run

of_key-above : (key : Values) (run : Run) → AllByRecursion (λ k. key_cmp key k ≡ Less) (map (λ (s : Stamped). s.key) run) → of_key key run ≡ []
of_key-above key [] all = refl
of_key-above key (s ∷ ss) all = ap (λ b. cond b (s ∷ of_key key ss) (of_key key ss)) (apart key s.key all.0) ∙ of_key-above key ss all.1

-- each row of a rising run is the only one of its key
pub only-own : (run : Run) → IsRising run → AllByRecursion (λ (s : Stamped). of_key s.key run ≡ s ∷ []) run
unfolding IsStrictlySortedBy
only-own [] rising = tt
only-own (x ∷ xs) rising =
    (ap (λ b. cond b (x ∷ of_key x.key xs) (of_key x.key xs)) (ties_itself x.key) ∙ ap (λ ys. x ∷ ys) (of_key-above x.key xs rising.0), later xs rising.0 (only-own xs rising.1))
  where
    later : (ys : Run) → AllByRecursion (λ k. key_cmp x.key k ≡ Less) (map (λ (s : Stamped). s.key) ys) → AllByRecursion (λ (s : Stamped). of_key s.key xs ≡ s ∷ []) ys
        → AllByRecursion (λ (s : Stamped). of_key s.key (x ∷ xs) ≡ s ∷ []) ys
    later [] above own = tt
    later (y ∷ ys) above own = (ap (λ b. cond b (x ∷ of_key y.key xs) (of_key y.key xs)) (apart_back x.key y.key above.0) ∙ own.0, later ys above.1 own.1)

-- what one run has of a key is for all rows of the key
whole_part : (m : Meaning) (key : Values) (run : Run) (rows : List HistoryRow) → CoversKey m key (run ∷ []) [] rows → Holds m key (of_key key run) rows
whole_part m key run rows covers = by_parts covers.parts covers.split covers.holds
  where
    by_parts : (parts : List (List HistoryRow)) → rows ≡ flat_map (λ (part : List HistoryRow). part) parts → AllZip (λ (run : Run) (part : List HistoryRow). Holds m key (of_key key run) part) (run ∷ []) parts
        → Holds m key (of_key key run) rows
    by_parts [] split holds = absurd holds
    by_parts (p ∷ []) split holds = subst (Holds m key (of_key key run)) (sym (split ∙ append-nil p)) holds.0
    by_parts (p ∷ q ∷ ps) split holds = absurd holds.1

-- where a run covers rows and has their kinds, its rows are the stored rows of their keys
pub rows-stored : (m : Meaning) (run rows : Run) → IsRising run → AllByRecursion (IsKeyed m) rows → CoversAll m (run ∷ []) (map row_of rows) → HasKinds m run rows → AreStoredRows m run rows
rows-stored m run rows rising keyed covers kinds = each run (only-own run rising) kinds
  where
    speaks : (s : Stamped) → of_key s.key run ≡ s ∷ [] → SpeaksFor m s.key (row_of s) (map row_of (of_key s.key rows))
    speaks s own =
        subst (SpeaksFor m s.key (row_of s)) (keyed_rows m s.key rows keyed)
        (subst (λ o. Holds m s.key o (rows_of m.primary s.key (map row_of rows))) own (whole_part m s.key run (rows_of m.primary s.key (map row_of rows)) (covers s.key)))

    each : (ss : Run) → AllByRecursion (λ (s : Stamped). of_key s.key run ≡ s ∷ []) ss → HasKinds m ss rows → AreStoredRows m ss rows
    each [] own kinds = tt
    each (s ∷ ss) own kinds = (stored-is m s.key (row_of s) (map row_of (of_key s.key rows)) (speaks s own.0) kinds.0.kind, each ss own.1 kinds.1)

-- ---- worth

-- what one run has of a key, for the part that it speaks for
only_part : (m : Meaning) (key : Values) (run : Run) (parts : List (List HistoryRow)) → AllZip (λ (run : Run) (part : List HistoryRow). Holds m key (of_key key run) part) (run ∷ []) parts
    → (part : List HistoryRow) × Holds m key (of_key key run) part
only_part m key run [] holds = absurd holds
only_part m key run (p ∷ ps) holds = (p, holds.0)

-- where a run covers rows, what it has of a key has the values of the key's rows, and shows as they do
pub row-worth : (m : Meaning) (run : Run) (rows : List HistoryRow) (key : Values) (x : Stamped) → Covers m (run ∷ []) rows → of_key key run ≡ x ∷ []
    → (values_over m (rows_of m.primary key rows) ≡ x.row) × (m.shows (rows_of m.primary key rows) ≡ m.shows (row_of x ∷ []))
row-worth m run rows key x covers own =
    let is : stored_rows key (run ∷ []) ≡ row_of x ∷ [] = ap (λ o. map row_of o ++ []) own in
    let some : stored_rows key (run ∷ []) ≢ [] = λ e. let no : row_of x ∷ [] ≡ [] = sym is ∙ e in cc in
    let same : SameWorth m (rows_of m.primary key rows) (row_of x ∷ []) = subst (SameWorth m (rows_of m.primary key rows)) is (covers-worth m (run ∷ []) rows key covers some) in
    let at = (covers key).2 in
    let part = only_part m key run at.parts at.holds in
    (values-own m key (row_of x) part.0 (rows_of m.primary key rows) (subst (λ o. Holds m key o part.0) own part.1) same, same.shows)
