-- What is told of a key has that key.
use Rattle.std.proofs.Common.{◌≡◌, ℕ, ◌+◌, ◌-◌, Bool, true, false, cond, ◌&&◌, List, [], ◌∷◌, map, filter, Option, Some, None, refl, sym, ap, subst, ◌∙◌}
use Rattle.std.specs.FinMap.{get}
use Rattle.std.specs.List.{AllByRecursion, flat_map}
use Rattle.std.specs.Ordering.{eq_by_cmp}
use Rattle.std.proofs.lemmas.List.{map-append}
use Rattle.std.proofs.lemmas.List.Elements.{filter-append}
use Rattle.pm_base.proofs.Laws.{AllByRecursion-append, AllByRecursion-parts}
use Rattle.pm_schema.specs.declared.schema.TableSchema.{TableSchema}
use Rattle.pm_values.specs.Fits.{Fits}
use Rattle.pm_values.specs.Order.{Values, key_cmp}
use Rattle.pm_values.specs.declared.kind.Kind.TheVariants.{UpdateBefore, UpdateAfter}
use Rattle.pm_model_history.specs.History.{Entry, entry_rows}
use Rattle.pm_model_history.specs.Merge.{HistoryRow, AllFit, key_of}
use Rattle.pm_model_history.specs.Merged.{primary_of, merged_row, merged}
use Rattle.pm_model_following.specs.Following.{NumberedRow, followed, is_passed, leaves_out_equal, numbered_from, passed_rows, told, told_at}
use Rattle.pm_model_following.proofs.KeyLemmas.{HasKey, merged_row-key}

-- what `merged_table_law` says
abbrev pub TableLaw : Type 0
TableLaw = (s : TableSchema) (rows : List HistoryRow) (key : Values) → get (merged s rows) key ≡ merged_row s rows key

-- ---- rows that are passed on

map-numbered : (P : HistoryRow → Type 0) (p : NumberedRow → Bool) (k : ℕ) (rows : List HistoryRow) → AllByRecursion P rows
    → AllByRecursion P (map (λ (r : NumberedRow). r.1) (filter p (map (λ (r : HistoryRow). (k, r)) rows)))
map-numbered P p k [] all = tt
map-numbered P p k (r ∷ rows) all =
    let kept : List NumberedRow = filter p (map (λ (r : HistoryRow). (k, r)) rows) in
    elim (p (k, r)) as (λ b. AllByRecursion P (map (λ (r : NumberedRow). r.1) (cond b ((k, r) ∷ kept) kept))) [
      | true ↦ (all.0, map-numbered P p k rows all.1)
      | false ↦ map-numbered P p k rows all.1
    ]

all-numbered : (P : HistoryRow → Type 0) (p : NumberedRow → Bool) (k : ℕ) (entries : List Entry) → AllByRecursion P (flat_map entry_rows entries)
    → AllByRecursion P (map (λ (r : NumberedRow). r.1) (filter p (numbered_from k entries)))
all-numbered P p k [] all = tt
all-numbered P p k (entry ∷ entries) all =
    let first : List NumberedRow = map (λ (r : HistoryRow). (k, r)) (entry_rows entry) in
    let parts = AllByRecursion-parts P (entry_rows entry) (flat_map entry_rows entries) all in
    subst (AllByRecursion P)
    (sym (ap (map (λ (r : NumberedRow). r.1)) (filter-append p first (numbered_from (k + 1) entries)) ∙ map-append (λ (r : NumberedRow). r.1) (filter p first) (filter p (numbered_from (k + 1) entries))))
    (AllByRecursion-append P (map (λ (r : NumberedRow). r.1) (filter p first)) (map (λ (r : NumberedRow). r.1) (filter p (numbered_from (k + 1) entries)))
    (map-numbered P p k (entry_rows entry) parts.0) (all-numbered P p (k + 1) entries parts.1))

followed-key : TableLaw → (s : TableSchema) (entries : List Entry) (n : ℕ) (key : Values) → AllFit s.columns (flat_map entry_rows entries) → HasKey s key (get (followed s entries n) key)
followed-key law s entries n key fit row is =
    let fits : AllFit s.columns (passed_rows s entries n) = all-numbered (λ (r : HistoryRow). Fits s.columns r.1) (is_passed s entries n) 1 entries fit in
    merged_row-key s (passed_rows s entries n) key fits row (sym (law s (passed_rows s entries n) key) ∙ is)

told-keyed : (s : TableSchema) (equal_out : Bool) (key : Values) (old new : Option Values) → HasKey s key old → HasKey s key new
    → AllByRecursion (λ (r : HistoryRow). key_of (primary_of s) r.1 ≡ key) (told equal_out old new)
told-keyed s equal_out key None None of_old of_new = tt
told-keyed s equal_out key None (Some new) of_old of_new = (of_new new refl, tt)
told-keyed s equal_out key (Some old) None of_old of_new = (of_old old refl, tt)
told-keyed s equal_out key (Some old) (Some new) of_old of_new =
    elim (equal_out && eq_by_cmp key_cmp old new) as (λ b. AllByRecursion (λ (r : HistoryRow). key_of (primary_of s) r.1 ≡ key) (cond b [] ((UpdateBefore, old) ∷ (UpdateAfter, new) ∷ []))) [
      | true ↦ tt
      | false ↦ (of_old old refl, (of_new new refl, tt))
    ]

-- what is told of a key are rows that have it
pub told-keys : TableLaw → (s : TableSchema) (entries : List Entry) (n : ℕ) (key : Values) → AllFit s.columns (flat_map entry_rows entries)
    → AllByRecursion (λ (r : HistoryRow). key_of (primary_of s) r.1 ≡ key) (told_at s entries n key)
told-keys law s entries n key fit =
    told-keyed s (leaves_out_equal s s.options.engine) key (get (followed s entries (n - 1)) key) (get (followed s entries n) key)
    (followed-key law s entries (n - 1) key fit) (followed-key law s entries n key fit)
