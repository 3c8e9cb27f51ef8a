-- The rows of a run that has at each key what a merged table has are those of the table, and so are their lines.
use Rattle.std.proofs.Common.{◌≡◌, ℕ, List, [], ◌∷◌, ◌++◌, map, true, false, cond, ◌&&◌, Option, Some, None, Less, T, refl, sym, ap, subst, ◌∙◌}
use Rattle.std.specs.FinMap.{FinMap, entries-from_sorted, find, from_sorted, get, get-from_sorted, is_sorted, same_map, values}
use Rattle.std.specs.FinMap.Entries.{below_all}
use Rattle.std.specs.List.{AllByRecursion, flat_map}
use Rattle.std.specs.List.Sorted.{IsStrictlySortedBy}
use Rattle.std.specs.Ordering.{eq_by_cmp, is_lt}
use Rattle.pm_base.specs.Newline.{line}
use Rattle.pm_values.specs.Order.{Values, key_cmp, key_total}
use Rattle.pm_values.specs.declared.kind.Kind.TheVariants.{Insert}
use Rattle.pm_values.specs.declared.record.Stamped.{Stamped}
use Rattle.pm_values.proofs.Lemmas.{key_cmp-IsAntisymmetric}
use Rattle.pm_rows.specs.RowText.{row_text}
use Rattle.pm_schema.specs.Again.{IsDeclared}
use Rattle.pm_schema.specs.declared.schema.TableSchema.{TableSchema}
use Rattle.pm_model_history.specs.Merge.{HistoryRow}
use Rattle.pm_model_history.specs.Merged.{merged, merged_row, scan_text}
use Rattle.pm_engine.specs.Covers.{Covers, IsRising, Run, of_key}
use Rattle.pm_engine.specs.OfSchema.{meaning_of}
use Rattle.pm_scan_rows.specs.Shown.{GroupRuns, GroupsCover, IsShown, PrintsGroups, lines_of}
use Rattle.pm_scan_rows.proofs.ScanLemmas.{all_covered, runs_of_all}
use Rattle.pm_scan_rows.proofs.ShownLemmas.{IsAt, IsHidden, IsWorth, group-at, shown-rising}

-- ---- a run as a table

-- the key and the row of a stored row
abbrev entry_of : Stamped → Values × Values
entry_of x = (x.key, x.row)

-- the first row of a run
abbrev first_row : Run → Option Values
first_row [] = None
first_row (x ∷ xs) = Some x.row

below_all-run : (key : Values) (run : Run) → AllByRecursion (λ y. key_cmp key y ≡ Less) (map (λ (x : Stamped). x.key) run) → below_all key_cmp key (map entry_of run) ≡ true
below_all-run key [] all = refl
below_all-run key (x ∷ xs) all = ap (λ o. is_lt o && below_all key_cmp key (map entry_of xs)) all.0 ∙ below_all-run key xs all.1

is_sorted-run : (run : Run) → IsRising run → is_sorted key_cmp (map entry_of run) ≡ true
unfolding IsStrictlySortedBy
is_sorted-run [] rising = refl
is_sorted-run (x ∷ xs) rising = ap (λ b. b && is_sorted key_cmp (map entry_of xs)) (below_all-run x.key xs rising.0) ∙ is_sorted-run xs rising.1

find-run : (run : Run) (key : Values) → find key_cmp key (map entry_of run) ≡ first_row (of_key key run)
find-run [] key = refl
find-run (x ∷ xs) key =
    elim (eq_by_cmp key_cmp key x.key) as (λ b. cond b (Some x.row) (find key_cmp key (map entry_of xs)) ≡ first_row (cond b (x ∷ of_key key xs) (of_key key xs))) [
      | true ↦ refl
      | false ↦ find-run xs key
    ]

first-at : (at : Option Values) (own : Run) → IsAt at own → first_row own ≡ at
first-at at [] is = sym is
first-at at (x ∷ []) is = sym is
first-at at (x ∷ y ∷ more) is = absurd is

rows-entries : (run : Run) → map (λ (x : Stamped). x.row) run ≡ map (λ (e : Values × Values). e.1) (map entry_of run)
rows-entries [] = refl
rows-entries (x ∷ xs) = ap (λ rows. x.row ∷ rows) (rows-entries xs)

-- the rows of a rising run that has at each key what the map has
rows-values : (run : Run) (m : FinMap key_cmp Values) → IsRising run → ((key : Values) → IsAt (get m key) (of_key key run)) → map (λ (x : Stamped). x.row) run ≡ values m
rows-values run m rising is =
    let in_order : T (is_sorted key_cmp (map entry_of run)) = subst T (sym (is_sorted-run run rising)) tt in
    let same : from_sorted (map entry_of run) ≡ m =
    same_map key_total key_cmp-IsAntisymmetric _ _ (λ q. get-from_sorted key_cmp (map entry_of run) q in_order ∙ find-run run q ∙ first-at (get m q) (of_key q run) (is q)) in
    rows-entries run ∙ ap (map (λ (e : Values × Values). e.1)) (sym (entries-from_sorted key_cmp (map entry_of run) in_order)) ∙ ap values same

-- ---- the lines

lines-rows : (run : Run) → lines_of run ≡ flat_map (λ (row : Values). line (row_text Insert row)) (map (λ (x : Stamped). x.row) run)
lines-rows [] = refl
lines-rows (x ∷ xs) = ap (λ text. line (row_text Insert x.row) ++ text) (lines-rows xs)

scan-lines : IsWorth → IsHidden → ((s : TableSchema) (rows : List HistoryRow) (key : Values) → get (merged s rows) key ≡ merged_row s rows key)
    → (s : TableSchema) (rows : List HistoryRow) (runs : List Run) (shown : Run) → Covers (meaning_of s) runs rows → IsShown (meaning_of s) runs shown → lines_of shown ≡ scan_text s rows
scan-lines worth hidden table s rows runs shown covers is =
    lines-rows shown
    ∙ ap (flat_map (λ (row : Values). line (row_text Insert row)))
    (rows-values shown (merged s rows) (shown-rising (meaning_of s) is.0 shown is.1.rising is.2)
    (λ key. subst (λ at. IsAt at (of_key key shown)) (sym (table s rows key)) (group-at worth hidden s key runs shown rows covers is)))

pub printed-scan : IsWorth → IsHidden → ((s : TableSchema) (rows : List HistoryRow) (key : Values) → get (merged s rows) key ≡ merged_row s rows key)
    → (s : TableSchema) (rows : List HistoryRow) (groups : List GroupRuns) (text : List ℕ) → IsDeclared s → GroupsCover s groups rows
    → PrintsGroups (meaning_of s) (map (λ (p : GroupRuns). p.1) groups) text → text ≡ scan_text s rows
printed-scan worth hidden table s rows groups text declared covered (shown, is, lines) =
    lines ∙ scan-lines worth hidden table s rows (runs_of_all groups) shown (all_covered s rows groups declared covered) is
