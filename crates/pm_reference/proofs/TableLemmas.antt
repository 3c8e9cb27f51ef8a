-- Single steps of searches and of tables.
use Rattle.std.proofs.Common.{◌≡◌, ℕ, suc, ◌+◌, ◌-◌, ◌<◌, List, [], ◌∷◌, ◌++◌, map, length, drop, get_or, Bool, true, false, cond, Option, Some, None, refl, sym, ap, ◌∙◌, arith, append_assoc}
use Rattle.std.specs.BTreeMap.{insert_entry}
use Rattle.std.specs.FinMap.{empty, entries, from_entries, from_sorted, entries-from_sorted, entries-insert, get-empty, get-from_sorted, put, same_map}
use Rattle.std.specs.FinMap.Entries.{by_order}
use Rattle.std.specs.List.{cons_option, filter_map, find, range_with_len}
use Rattle.std.specs.Option.{option_map}
use Rattle.std.specs.Ordering.{match_ordering}
use Rattle.std.specs.declared.cmp.Ordering.{Ordering}
use Rattle.std.specs.declared.cmp.Ordering.TheVariants.{Less, Equal, Greater}
use Rattle.std.proofs.lemmas.List.{drop_all, drop_more}
use Rattle.pm_values.specs.Order.{Values, key_cmp, key_total}
use Rattle.pm_values.specs.declared.value.Value.{Value}
use Rattle.pm_values.proofs.Lemmas.{key_cmp-IsAntisymmetric}
use Rattle.pm_schema.specs.declared.schema.TableSchema.{TableSchema}
use Rattle.pm_model_history.specs.Merge.{HistoryRow, key_of}
use Rattle.pm_model_history.specs.Merged.{primary_of, merged_row, merged_entry}
use Rattle.pm_reference.specs.Table.{placed}

-- an item that passes is the first, where none before it does
pub find_here : {X : Type 0} (p : X → Bool) (xs : List X) (i : ℕ) (x : X) → i < length xs → x ≡ get_or xs i x → true ≡ p x → find p (drop i xs) ≡ find p xs → find p xs ≡ Some x
find_here p xs i x below is passes none =
    sym none ∙ ap (find p) (drop_more xs i x below) ∙ ap (λ y. find p (y ∷ drop (i + 1) xs)) (sym is)
    ∙ ap (λ b. cond b (Some x) (find p (drop (i + 1) xs))) (sym passes)

-- an item that doesn't pass isn't
pub find_later : {X : Type 0} (p : X → Bool) (xs : List X) (i : ℕ) (x : X) → i < length xs → x ≡ get_or xs i x → false ≡ p x → find p (drop i xs) ≡ find p xs → find p (drop (i + 1) xs) ≡ find p xs
find_later p xs i x below is fails none =
    ap (λ b. cond b (Some x) (find p (drop (i + 1) xs))) fails
    ∙ ap (λ y. find p (y ∷ drop (i + 1) xs)) is ∙ ap (find p) (sym (drop_more xs i x below)) ∙ none

suc_left : (i n : ℕ) → i < n → n - i ≡ suc (n - (i + 1))
suc_left i n below = omega arith

-- one value more
pub values_more : (f : ℕ → Value) (before all : Values) (value : Value) (i n : ℕ) → i < n → value ≡ f i
    → before ++ map f (range_with_len i (n - i)) ≡ all → (before ++ value ∷ []) ++ map f (range_with_len (i + 1) (n - (i + 1))) ≡ all
values_more f before all value i n below is so_far =
    append_assoc before (value ∷ []) (map f (range_with_len (i + 1) (n - (i + 1))))
    ∙ ap (λ v. before ++ v ∷ map f (range_with_len (i + 1) (n - (i + 1)))) is
    ∙ ap (λ m. before ++ map f (range_with_len i m)) (sym (suc_left i n below)) ∙ so_far

insert_entry-put : {K X : Type 0} (R : K → K → Ordering) (es : List (K × X)) (k : K) (v : X) → insert_entry R es k v ≡ put R k v es
insert_entry-put R [] k v = refl
insert_entry-put R (e ∷ es) k v =
    elim (R k e.0) as (λ o. match_ordering o ((k, v) ∷ e ∷ es) ((e.0, v) ∷ es) (e ∷ insert_entry R es k v) ≡ by_order o ((k, v) ∷ e ∷ es) ((e.0, v) ∷ es) (e ∷ put R k v es)) [
      | Less ↦ refl
      | Equal ↦ refl
      | Greater ↦ ap (λ rest. e ∷ rest) (insert_entry-put R es k v)
    ]

-- one entry more before others
entries-placed : (e : Option (Values × Values)) (es : List (Values × Values)) → placed e (entries (from_entries {R = key_cmp} es)) ≡ entries (from_entries {R = key_cmp} (cons_option e es))
entries-placed None es = refl
entries-placed (Some e) es = insert_entry-put key_cmp (entries (from_entries {R = key_cmp} es)) e.0 e.1 ∙ sym (entries-insert key_total (from_entries {R = key_cmp} es) e.0 e.1)

-- no entries stand for no rows
pub entries-empty : (entry_of : HistoryRow → Option (Values × Values)) (rows : List HistoryRow) (table : List (Values × Values)) → table ≡ [] → table ≡ entries (from_entries {R = key_cmp} (filter_map entry_of (drop (length rows) rows)))
entries-empty entry_of rows table e =
    let none : empty {X = Values} {R = key_cmp} ≡ from_sorted [] = same_map key_total key_cmp-IsAntisymmetric _ _ (λ q. get-empty key_cmp q ∙ sym (get-from_sorted key_cmp [] q tt)) in
    e ∙ sym (entries-from_sorted key_cmp [] tt) ∙ ap entries (sym none) ∙ ap (λ rest. entries (from_entries {R = key_cmp} (filter_map entry_of rest))) (sym (drop_all (length rows) rows (omega arith)))

before : (i : ℕ) → 0 < i → (i - 1) + 1 ≡ i
before i some = omega arith

-- the entries after one row more, from the last on
pub entries_more : (s : TableSchema) (rows : List HistoryRow) (i : ℕ) (r : HistoryRow) (primary : List ℕ) (old new : List (Values × Values)) → 0 < i → i - 1 < length rows → r ≡ get_or rows (i - 1) r → primary ≡ primary_of s
    → (primary ≡ primary_of s → new ≡ placed (option_map (λ (shown : Values). (key_of primary r.1, shown)) (merged_row s rows (key_of primary r.1))) old)
    → old ≡ entries (from_entries {R = key_cmp} (filter_map (merged_entry s rows) (drop i rows))) → new ≡ entries (from_entries {R = key_cmp} (filter_map (merged_entry s rows) (drop (i - 1) rows)))
entries_more s rows i r primary old new some below is known puts so_far =
    let rest : List HistoryRow = drop ((i - 1) + 1) rows in
    let given : old ≡ entries (from_entries {R = key_cmp} (filter_map (merged_entry s rows) rest)) = so_far ∙ ap (λ n. entries (from_entries {R = key_cmp} (filter_map (merged_entry s rows) (drop n rows)))) (sym (before i some)) in
    puts known
    ∙ ap (λ p. placed (option_map (λ (shown : Values). (key_of p r.1, shown)) (merged_row s rows (key_of p r.1))) old) known
    ∙ ap (placed (merged_entry s rows r)) given
    ∙ entries-placed (merged_entry s rows r) (filter_map (merged_entry s rows) rest)
    ∙ ap (λ x. entries (from_entries {R = key_cmp} (filter_map (merged_entry s rows) (x ∷ rest)))) is
    ∙ ap (λ xs. entries (from_entries {R = key_cmp} (filter_map (merged_entry s rows) xs))) (sym (drop_more rows (i - 1) r below))
