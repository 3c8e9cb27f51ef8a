-- The entries of rows, and what the map that is made of them has at a key.
use Rattle.std.proofs.Common.{◌≡◌, ℕ, List, [], ◌∷◌, Bool, true, false, cond, ◌||◌, Option, Some, None, refl, sym, ap, ◌∙◌}
use Rattle.std.specs.Option.{option_map}
use Rattle.std.specs.List.{filter_map, cons_option, list_any}
use Rattle.std.specs.FinMap.{get, find, from_entries, get-from_entries}
use Rattle.std.specs.Ordering.{eq_by_cmp, is_eq}
use Rattle.std.specs.declared.cmp.Ordering.TheVariants.{Less, Equal, Greater}
use Rattle.pm_values.specs.Order.{Values, key_cmp, key_total}
use Rattle.pm_values.proofs.Lemmas.{key_cmp-IsAntisymmetric}
use Rattle.pm_model_history.specs.Merge.{HistoryRow, key_of, rows_of}

-- keys that tie are one
pub tied : (a b : Values) → eq_by_cmp key_cmp a b ≡ true → a ≡ b
tied a b e =
    elim (key_cmp a b) as (λ o. key_cmp a b ≡ o → is_eq o ≡ true → a ≡ b) [
      | Less ↦ λ p q. cc
      | Equal ↦ λ p q. key_cmp-IsAntisymmetric a b p
      | Greater ↦ λ p q. cc
    ] refl e

-- no row of a key where no row has it
rows_of-none : (primary : List ℕ) (q : Values) (rows : List HistoryRow) → list_any (λ (r : HistoryRow). eq_by_cmp key_cmp q (key_of primary r.1)) rows ≡ false → rows_of primary q rows ≡ []
rows_of-none primary q [] e = refl
rows_of-none primary q (r ∷ rows) e =
    elim (eq_by_cmp key_cmp q (key_of primary r.1)) as (λ b. (b || list_any (λ (r : HistoryRow). eq_by_cmp key_cmp q (key_of primary r.1)) rows) ≡ false → cond b (r ∷ rows_of primary q rows) (rows_of primary q rows) ≡ []) [
      | true ↦ λ h. cc
      | false ↦ λ h. rows_of-none primary q rows h
    ] e

-- the entries of rows have what is at a key at the keys of the rows, and nothing elsewhere
pub find-entries : (primary : List ℕ) (row_at : Values → Option Values) (rows : List HistoryRow) (q : Values)
    → find key_cmp q (filter_map (λ (r : HistoryRow). option_map (λ (row : Values). (key_of primary r.1, row)) (row_at (key_of primary r.1))) rows)
    ≡ cond (list_any (λ (r : HistoryRow). eq_by_cmp key_cmp q (key_of primary r.1)) rows) (row_at q) None
find-entries primary row_at [] q = refl
find-entries primary row_at (r ∷ rows) q =
    let key = key_of primary r.1 in
    let rest = find-entries primary row_at rows q in
    let entries : List (Values × Values) = filter_map (λ (r : HistoryRow). option_map (λ (row : Values). (key_of primary r.1, row)) (row_at (key_of primary r.1))) rows in
    let more : Bool = list_any (λ (r : HistoryRow). eq_by_cmp key_cmp q (key_of primary r.1)) rows in
    elim (eq_by_cmp key_cmp q key) as (λ b. eq_by_cmp key_cmp q key ≡ b → find key_cmp q (cons_option (option_map (λ (row : Values). (key, row)) (row_at key)) entries) ≡ cond (b || more) (row_at q) None) [
      | true ↦ λ t. elim (row_at key) as (λ o. row_at key ≡ o → find key_cmp q (cons_option (option_map (λ (row : Values). (key, row)) o) entries) ≡ row_at q) [
        | Some row ↦ λ is. ap (λ b. cond b (Some row) (find key_cmp q entries)) t ∙ sym is ∙ ap row_at (sym (tied q key t))
        | None ↦ λ is. let none : row_at q ≡ None = ap row_at (tied q key t) ∙ is in
            rest ∙ elim more as (λ m. cond m (row_at q) None ≡ row_at q) [ true ↦ refl | false ↦ sym none ]
      ] refl
      | false ↦ λ t. elim (row_at key) as (λ o. find key_cmp q (cons_option (option_map (λ (row : Values). (key, row)) o) entries) ≡ cond more (row_at q) None) [
        | Some row ↦ ap (λ b. cond b (Some row) (find key_cmp q entries)) t ∙ rest
        | None ↦ rest
      ]
    ] refl

-- the map of these entries has at a key what is at it, where nothing is at a key that no row has
pub get-rows : (primary : List ℕ) (row_at : Values → Option Values) (rows : List HistoryRow) (q : Values) → (rows_of primary q rows ≡ [] → row_at q ≡ None)
    → get (from_entries {R = key_cmp} (filter_map (λ (r : HistoryRow). option_map (λ (row : Values). (key_of primary r.1, row)) (row_at (key_of primary r.1))) rows)) q ≡ row_at q
get-rows primary row_at rows q none =
    get-from_entries key_total _ q ∙ find-entries primary row_at rows q
    ∙ elim (list_any (λ (r : HistoryRow). eq_by_cmp key_cmp q (key_of primary r.1)) rows) as (λ b. list_any (λ (r : HistoryRow). eq_by_cmp key_cmp q (key_of primary r.1)) rows ≡ b → cond b (row_at q) None ≡ row_at q) [
      | true ↦ λ e. refl
      | false ↦ λ e. sym (none (rows_of-none primary q rows e))
    ] refl
