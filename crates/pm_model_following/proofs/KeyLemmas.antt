-- The row that a table has at a key has that key.
use Rattle.std.proofs.Common.{◌≡◌, ℕ, suc, ◌+◌, ◌≤◌, Bool, true, false, cond, not, ◌||◌, List, [], ◌∷◌, map, length, Option, Some, None, inl, inr, refl, sym, ap, subst, ◌∙◌, arith}
use Rattle.std.specs.List.{AllByRecursion, filter, last_or, position_or_len, slice_get}
use Rattle.std.specs.Option.{is_some, option_map, option_map_or, unwrap_or}
use Rattle.std.specs.Cmp.{Equal-is}
use Rattle.std.specs.Ordering.{eq_by_cmp}
use Rattle.std.specs.Str.{bytes_eq}
use Rattle.std.proofs.lemmas.List.{get_or_past}
use Rattle.std.proofs.lemmas.List.FromFn.{get_or-map-range_with_len, length-map-range_with_len}
use Rattle.std.proofs.lemmas.Option.{slice_get_cases}
use Rattle.std.proofs.lemmas.Slice.Eq.{bytes_eq-Decides}
use Rattle.pm_options.specs.declared.kinds.EngineKind.{EngineKind}
use Rattle.pm_options.specs.declared.kinds.EngineKind.TheVariants as engines
use Rattle.pm_schema.specs.Rules.{is_among}
use Rattle.pm_schema.specs.declared.schema.TableSchema.{TableSchema}
use Rattle.pm_values.proofs.Lemmas.{key_cmp-IsAntisymmetric}
use Rattle.pm_values.specs.Fits.{Fits}
use Rattle.pm_values.specs.Kind.{retracts}
use Rattle.pm_values.specs.Order.{Values, key_cmp}
use Rattle.pm_values.specs.declared.column.Column.{Column}
use Rattle.pm_values.specs.declared.value.Value.{Value}
use Rattle.pm_values.specs.declared.value.Value.TheVariants.{Null}
use Rattle.pm_model_history.specs.ColumnValue.{column_value, index_of, last_value, value_by, value_in, values_at}
use Rattle.pm_model_history.specs.Merge.{HistoryRow, AllFit, value_at, key_of, rows_of}
use Rattle.pm_model_history.specs.Merged.{primary_of, shows, shows_by, values_of, merged_row}
use Rattle.pm_model_history.specs.Taken.{is_key}

-- keys that tie are one
pub tied : (a b : Values) → eq_by_cmp key_cmp a b ≡ true → a ≡ b
tied a b e = key_cmp-IsAntisymmetric a b ((Equal-is (key_cmp a b)).0 e)

pub length-fits : (columns : List Column) (values : Values) → Fits columns values → length values ≡ length columns
length-fits [] [] fits = refl
length-fits [] (v ∷ vs) fits = absurd fits
length-fits (c ∷ cs) [] fits = absurd fits
length-fits (c ∷ cs) (v ∷ vs) fits = ap suc (length-fits cs vs fits.1)

-- ---- the last row of a key

last_or-map : {A B : Type 0} (f : A → B) (o : Option A) (xs : List A) → last_or (option_map f o) (map f xs) ≡ option_map f (last_or o xs)
last_or-map f o [] = refl
last_or-map f o (x ∷ xs) = last_or-map f (Some x) xs

pub last_value-is : (own : List HistoryRow) (r : HistoryRow) (i : ℕ) → last_or None own ≡ Some r → last_value (values_at i own) ≡ value_at r.1 i
last_value-is own r i last =
    ap (λ (o : Option Value). unwrap_or o Null) (last_or-map (λ (x : HistoryRow). value_at x.1 i) None own ∙ ap (option_map (λ (x : HistoryRow). value_at x.1 i)) last)

position_found : {X : Type 0} (p : X → Bool) (xs : List X) (x : X) → slice_get xs (position_or_len p xs) ≡ Some x → p x ≡ true
position_found p [] x e = cc
position_found p (y ∷ ys) x e =
    elim (p y) as (λ b. p y ≡ b → slice_get (y ∷ ys) (cond (not b) (1 + position_or_len p ys) 0) ≡ Some x → p x ≡ true) [
      | true ↦ λ b e. ap p (sym (ap (λ o. unwrap_or o y) e)) ∙ b
      | false ↦ λ b e.
          let one : suc (position_or_len p ys) ≡ 1 + position_or_len p ys = omega arith in
          position_found p ys x (ap (slice_get (y ∷ ys)) one ∙ e)
    ] refl e

-- a key column of the merged row has the last row's value
key_column : (s : TableSchema) (own : List HistoryRow) (r : HistoryRow) → last_or None own ≡ Some r → length r.1 ≡ length s.columns
    → (name : List ℕ) → is_among s.primary name ≡ true → value_at (values_of s own) (index_of s name) ≡ value_at r.1 (index_of s name)
unfolding column_value
key_column s own r last fit name among =
    let i = index_of s name in
    elim (slice_get_cases s.columns i).1 [
      | inl within ↦
          let c : Column = within.0 in
          let is_name : c.name ≡ name = (bytes_eq-Decides c.name name).0 (position_found (λ (c : Column). bytes_eq c.name name) s.columns c within.2) in
          let key : is_key s c ≡ true = ap (is_among s.primary) is_name ∙ among in
          get_or-map-range_with_len (λ i. column_value s i own) 0 (length s.columns) i i Null within.1 (omega arith)
          ∙ ap (λ o. option_map_or (value_in s i own) o Null) within.2
          ∙ ap (λ b. cond b (last_value (values_at i own)) (value_by s.options.engine s c i own)) key
          ∙ last_value-is own r i last
      | inr past ↦
          get_or_past (values_of s own) i Null (subst (λ n. n ≤ i) (sym (length-map-range_with_len (λ i. column_value s i own) 0 (length s.columns))) past.0)
          ∙ sym (get_or_past r.1 i Null (subst (λ n. n ≤ i) (sym fit) past.0))
    ]

or_second : (a b : Bool) → b ≡ true → (a || b) ≡ true
or_second true b e = refl
or_second false b e = e

or_first : (a b : Bool) → a ≡ true → (a || b) ≡ true
or_first true b e = refl
or_first false b e = cc

key_columns : (s : TableSchema) (own : List HistoryRow) (r : HistoryRow) → last_or None own ≡ Some r → length r.1 ≡ length s.columns
    → (names : List (List ℕ)) → ((name : List ℕ) → is_among names name ≡ true → is_among s.primary name ≡ true)
    → key_of (map (index_of s) names) (values_of s own) ≡ key_of (map (index_of s) names) r.1
key_columns s own r last fit [] among = refl
key_columns s own r last fit (name ∷ names) among =
    let here = key_column s own r last fit name (among name (or_first (bytes_eq name name) (is_among names name) ((bytes_eq-Decides name name).1 refl))) in
    let rest = key_columns s own r last fit names (λ x e. among x (or_second (bytes_eq name x) (is_among names x) e)) in
    λ i. here i ∷ rest i

-- ---- the key of the merged row

filter-all : {X : Type 0} (p : X → Bool) (P : X → Type 0) (xs : List X) → AllByRecursion P xs → AllByRecursion (λ x. (p x ≡ true) × P x) (filter p xs)
filter-all p P [] all = tt
filter-all p P (x ∷ xs) all =
    elim (p x) as (λ b. p x ≡ b → AllByRecursion (λ x. (p x ≡ true) × P x) (cond b (x ∷ filter p xs) (filter p xs))) [
      | true ↦ λ b. ((b, all.0), filter-all p P xs all.1)
      | false ↦ λ b. filter-all p P xs all.1
    ] refl

last-all : {X : Type 0} (P : X → Type 0) (o : Option X) (xs : List X) (x : X) → ((y : X) → o ≡ Some y → P y) → AllByRecursion P xs → last_or o xs ≡ Some x → P x
last-all P o [] x first all last = first x last
last-all P o (z ∷ xs) x first all last = last-all P (Some z) xs x (λ y e. subst P (ap (λ o. unwrap_or o z) e) all.0) all.1 last

shows_by-last : (engine : EngineKind) (own : List HistoryRow) → last_or None own ≡ None → shows_by engine own ≡ false
shows_by-last engines.Deduplicate own e = ap (λ o. option_map_or (λ (r : HistoryRow). not (retracts r.0)) o false) e
shows_by-last engines.FirstRow own e = ap is_some e
shows_by-last engines.PartialUpdate own e = ap is_some e
shows_by-last engines.Aggregation own e = ap is_some e

-- the row that is there has the key
abbrev pub HasKey : TableSchema → Values → Option Values → Type 0
HasKey s k o = (row : Values) → o ≡ Some row → key_of (primary_of s) row ≡ k

pub merged_row-key : (s : TableSchema) (rows : List HistoryRow) (k : Values) → AllFit s.columns rows → HasKey s k (merged_row s rows k)
merged_row-key s rows k fit row is =
    let own = rows_of (primary_of s) k rows in
    elim (last_or None own) as (λ o. last_or None own ≡ o → key_of (primary_of s) row ≡ k) [
      | None ↦ λ last.
          let none : None ≡ Some row = ap (λ b. cond b (Some (values_of s own)) None) (sym (shows_by-last s.options.engine own last)) ∙ is in cc
      | Some r ↦ λ last.
          let fits = last-all (λ (r : HistoryRow). (eq_by_cmp key_cmp k (key_of (primary_of s) r.1) ≡ true) × Fits s.columns r.1) None own r (λ y e. cc)
          (filter-all (λ (r : HistoryRow). eq_by_cmp key_cmp k (key_of (primary_of s) r.1)) (λ (r : HistoryRow). Fits s.columns r.1) rows fit) last in
          let at_key : key_of (primary_of s) (values_of s own) ≡ k =
          key_columns s own r last (length-fits s.columns r.1 fits.1) s.primary (λ name e. e) ∙ sym (tied k (key_of (primary_of s) r.1) fits.0) in
          elim (shows s own) as (λ b. cond b (Some (values_of s own)) None ≡ Some row → key_of (primary_of s) row ≡ k) [
            | true ↦ λ e. ap (λ o. key_of (primary_of s) (unwrap_or o row)) (sym e) ∙ at_key
            | false ↦ λ e. cc
          ] is
    ] refl
