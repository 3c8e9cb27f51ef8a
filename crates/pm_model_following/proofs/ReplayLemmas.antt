-- Changes that are replay on the table that is passed on.
use Rattle.std.proofs.Common.{◌≡◌, length-append, ◌≢◌, ℕ, zero, suc, ◌+◌, ◌-◌, ◌≤◌, ◌<◌, leb, eqb, Bool, true, false, cond, not, ◌&&◌, ◌||◌, List, [], ◌∷◌, ◌++◌, map, length, append-nil, append_assoc, le_refl, lt_irrefl, Option, Some, None, inl, inr, refl, sym, ap, subst, ◌∙◌, arith}
use Rattle.std.specs.FinMap.{FinMap, from_entries, get, get-insert, get-remove, get-from_entries, contains_key-keys, same_map}
use Rattle.std.specs.FinMap.Entries.{is_some-find}
use Rattle.std.specs.List.{AllByRecursion, filter, flat_map, last_or, list_any, range_with_len}
use Rattle.std.specs.Option.{is_some, option_map_or}
use Rattle.std.specs.Ordering.{eq_by_cmp}
use Rattle.std.proofs.Math.Seq.{get_or-append_seam}
use Rattle.std.proofs.lemmas.Bool.{cases_lt, le-leb, eq-eqb, ne_eqb}
use Rattle.std.proofs.lemmas.List.{get_or_past, map-append}
use Rattle.std.proofs.lemmas.List.Elements.{filter-append}
use Rattle.std.proofs.lemmas.List.Sums.{fold-append}
use Rattle.std.proofs.lemmas.Option.{slice_get_cases}
use Rattle.pm_base.proofs.Laws.{AllByRecursion-append, AllByRecursion-parts, last_or-push}
use Rattle.pm_options.specs.declared.kinds.EngineKind.TheVariants as engines
use Rattle.pm_options.specs.declared.kinds.Producer.{Producer}
use Rattle.pm_options.specs.declared.kinds.Producer.TheVariants as producers
use Rattle.pm_schema.specs.declared.schema.TableSchema.{TableSchema}
use Rattle.pm_values.proofs.Lemmas.{key_cmp-IsAntisymmetric}
use Rattle.pm_values.specs.Fits.{Fits}
use Rattle.pm_values.specs.Kind.{retracts}
use Rattle.pm_values.specs.Order.{Values, key_cmp, key_total}
use Rattle.pm_values.specs.declared.column.Column.{Column}
use Rattle.pm_values.specs.declared.kind.Kind.TheVariants.{Insert, UpdateBefore, UpdateAfter, Delete}
use Rattle.pm_values.specs.declared.value.Value.TheVariants.{Null}
use Rattle.pm_model_history.specs.ColumnValue.{column_value, last_value, value_by, value_in, values_at}
use Rattle.pm_model_following.specs.Following.{NumberedRow, numbered_from, numbered_rows, passed, is_passed, passed_rows, followed, rows_at, keys_in, by_key, newly_passed, leaves_out_equal, told, told_at, change_by, change, after_line, replay}
use Rattle.pm_model_following.specs.Groups.{group_of}
use Rattle.pm_model_history.specs.History.{Entry, entry_rows}
use Rattle.pm_model_history.specs.Merge.{HistoryRow, AllFit, value_at, key_of, rows_of}
use Rattle.pm_model_history.specs.Merged.{primary_of, shows, shows_by, values_of, merged_row, merged}
use Rattle.pm_model_history.specs.Taken.{is_key}
use Rattle.pm_model_following.proofs.KeyLemmas.{HasKey, last_value-is, length-fits, merged_row-key, tied}
use Rattle.pm_model_following.proofs.FollowingLemmas.{is_passed_more, rows_by, rows_by-cons, rows_by-none, not_leb}

-- ---- rows and keys

-- the values at the indexes of a list are the list
values_at_indexes : (before after : Values) → map (λ index. value_at (before ++ after) index) (range_with_len (length before) (length after)) ≡ after
values_at_indexes before [] = refl
values_at_indexes before (v ∷ vs) =
    let longer : length (before ++ v ∷ []) ≡ length before + 1 = length-append before (v ∷ []) in
    let rest : map (λ index. value_at (before ++ v ∷ vs) index) (range_with_len (length before + 1) (length vs)) ≡ vs =
    subst (λ n. map (λ index. value_at (before ++ v ∷ vs) index) (range_with_len n (length vs)) ≡ vs) longer
    (subst (λ xs. map (λ index. value_at xs index) (range_with_len (length (before ++ v ∷ [])) (length vs)) ≡ vs) (append_assoc before (v ∷ []) vs) (values_at_indexes (before ++ v ∷ []) vs)) in
    λ i. get_or-append_seam before v vs Null i ∷ rest i

-- no row of a key where no row has it
rows_of-none : (primary : List ℕ) (q : Values) (rows : List HistoryRow) → list_any (λ (r : HistoryRow). eq_by_cmp key_cmp q (key_of primary r.1)) rows ≡ false → rows_of primary q rows ≡ []
rows_of-none primary q [] e = refl
rows_of-none primary q (r ∷ rows) e =
    elim (eq_by_cmp key_cmp q (key_of primary r.1)) as (λ b. (b || list_any (λ (r : HistoryRow). eq_by_cmp key_cmp q (key_of primary r.1)) rows) ≡ false → cond b (r ∷ rows_of primary q rows) (rows_of primary q rows) ≡ []) [
      | true ↦ λ h. cc
      | false ↦ λ h. rows_of-none primary q rows h
    ] e

-- ---- rows that are replay

-- what a row leaves at its key
abbrev left : HistoryRow → Option Values
left r = cond (retracts r.0) None (Some r.1)

after_line-at : (s : TableSchema) (m : FinMap key_cmp Values) (r : HistoryRow) (q : Values)
    → get (after_line s m r) q ≡ cond (eq_by_cmp key_cmp q (key_of (primary_of s) r.1)) (left r) (get m q)
after_line-at s m (Insert, row) q = get-insert key_total m (key_of (primary_of s) row) row q
after_line-at s m (UpdateBefore, row) q = get-remove key_total m (key_of (primary_of s) row) q
after_line-at s m (UpdateAfter, row) q = get-insert key_total m (key_of (primary_of s) row) row q
after_line-at s m (Delete, row) q = get-remove key_total m (key_of (primary_of s) row) q

-- what rows of one key leave at it
abbrev latest : Option Values → List HistoryRow → Option Values
latest o [] = o
latest o (r ∷ rows) = latest (left r) rows

latest-same : (o : Option Values) (rows : List HistoryRow) → latest (latest o rows) rows ≡ latest o rows
latest-same o [] = refl
latest-same o (r ∷ rows) = refl

replay-at : (s : TableSchema) (rows : List HistoryRow) (m : FinMap key_cmp Values) (q : Values)
    → get (replay s m rows) q ≡ latest (get m q) (rows_of (primary_of s) q rows)
replay-at s [] m q = refl
replay-at s (r ∷ rows) m q =
    let own = rows_of (primary_of s) q rows in
    replay-at s rows (after_line s m r) q
    ∙ ap (λ o. latest o own) (after_line-at s m r q)
    ∙ elim (eq_by_cmp key_cmp q (key_of (primary_of s) r.1)) as (λ b. latest (cond b (left r) (get m q)) own ≡ latest (get m q) (cond b (r ∷ own) own)) [
      | true ↦ refl
      | false ↦ refl
    ]

rows_of-same : (primary : List ℕ) (k : Values) (rows : List HistoryRow) → rows_of primary k (rows_of primary k rows) ≡ rows_of primary k rows
rows_of-same primary k [] = refl
rows_of-same primary k (r ∷ rows) =
    let own = rows_of primary k rows in
    elim (eq_by_cmp key_cmp k (key_of primary r.1)) as (λ b. eq_by_cmp key_cmp k (key_of primary r.1) ≡ b → rows_of primary k (cond b (r ∷ own) own) ≡ cond b (r ∷ own) own) [
      | true ↦ λ e. ap (λ b. cond b (r ∷ rows_of primary k own) (rows_of primary k own)) e ∙ ap (λ xs. r ∷ xs) (rows_of-same primary k rows)
      | false ↦ λ e. rows_of-same primary k rows
    ] refl

rows_of-other : (primary : List ℕ) (q k : Values) (rows : List HistoryRow) → eq_by_cmp key_cmp q k ≡ false → rows_of primary q (rows_of primary k rows) ≡ []
rows_of-other primary q k [] other = refl
rows_of-other primary q k (r ∷ rows) other =
    let own = rows_of primary k rows in
    elim (eq_by_cmp key_cmp k (key_of primary r.1)) as (λ b. eq_by_cmp key_cmp k (key_of primary r.1) ≡ b → rows_of primary q (cond b (r ∷ own) own) ≡ []) [
      | true ↦ λ e.
          ap (λ b. cond b (r ∷ rows_of primary q own) (rows_of primary q own)) (ap (eq_by_cmp key_cmp q) (sym (tied k (key_of primary r.1) e)) ∙ other)
          ∙ rows_of-other primary q k rows other
      | false ↦ λ e. rows_of-other primary q k rows other
    ] refl

-- ---- parts of a change, one for each key

-- Key by key, the part of a key takes what a table has at it from the old to the new, and touches no other key.
abbrev Turns : TableSchema → (Values → Option Values) → (Values → Option Values) → (Values → List HistoryRow) → Type 0
Turns s old new part =
    (k : Values) (m : FinMap key_cmp Values) (b : Bool) → get m k ≡ cond b (new k) (old k)
    → (q : Values) → get (replay s m (part k)) q ≡ cond (eq_by_cmp key_cmp q k) (new q) (get m q)

abbrev has : Values → List Values → Bool
has q all = list_any (eq_by_cmp key_cmp q) all

cond_or : {A : Type 0} (a b : Bool) (x y : A) → cond a x (cond b x y) ≡ cond (a || b) x y
cond_or true b x y = refl
cond_or false b x y = refl

or_turned : {A : Type 0} (a b c : Bool) (x y : A) → cond (a || (b || c)) x y ≡ cond ((b || a) || c) x y
or_turned true true c x y = refl
or_turned true false c x y = refl
or_turned false true c x y = refl
or_turned false false c x y = refl

replay-each : (s : TableSchema) (old new : Values → Option Values) (part : Values → List HistoryRow) → Turns s old new part
    → (all : List Values) (m : FinMap key_cmp Values) (done : Values → Bool) → ((q : Values) → get m q ≡ cond (done q) (new q) (old q))
    → (q : Values) → get (replay s m (flat_map part all)) q ≡ cond (has q all || done q) (new q) (old q)
replay-each s old new part turns [] m done is q = is q
replay-each s old new part turns (k ∷ all) m done is q =
    let next : FinMap key_cmp Values = replay s m (part k) in
    ap (λ (t : FinMap key_cmp Values). get t q) (fold-append (after_line s) m (part k) (flat_map part all))
    ∙ replay-each s old new part turns all next (λ x. eq_by_cmp key_cmp x k || done x)
    (λ x. turns k m (done k) (is k) x ∙ ap (cond (eq_by_cmp key_cmp x k) (new x)) (is x) ∙ cond_or (eq_by_cmp key_cmp x k) (done x) (new x) (old x)) q
    ∙ or_turned (has q all) (eq_by_cmp key_cmp q k) (done q) (new q) (old q)

replay-parts : (s : TableSchema) (old new : FinMap key_cmp Values) (part : Values → List HistoryRow) (all : List Values)
    → Turns s (get old) (get new) part → ((q : Values) → has q all ≡ false → get old q ≡ get new q) → replay s old (flat_map part all) ≡ new
replay-parts s old new part all turns still =
    same_map key_total key_cmp-IsAntisymmetric _ _
    (λ q. replay-each s (get old) (get new) part turns all old (λ _. false) (λ x. refl) q
    ∙ elim (has q all) as (λ b. has q all ≡ b → cond (b || false) (get new q) (get old q) ≡ get new q) [ true ↦ λ e. refl | false ↦ λ e. still q e ] refl)

-- the keys of rows
list_any-keys : (primary : List ℕ) (q : Values) (rows : List HistoryRow)
    → list_any (eq_by_cmp key_cmp q) (map (λ (e : Values × HistoryRow). e.0) (map (λ (r : HistoryRow). (key_of primary r.1, r)) rows))
    ≡ list_any (λ (r : HistoryRow). eq_by_cmp key_cmp q (key_of primary r.1)) rows
list_any-keys primary q [] = refl
list_any-keys primary q (r ∷ rows) = ap (λ b. eq_by_cmp key_cmp q (key_of primary r.1) || b) (list_any-keys primary q rows)

has-keys_in : (s : TableSchema) (rows : List HistoryRow) (q : Values)
    → has q (keys_in s rows) ≡ list_any (λ (r : HistoryRow). eq_by_cmp key_cmp q (key_of (primary_of s) r.1)) rows
has-keys_in s rows q =
    let entries : List (Values × HistoryRow) = map (λ (r : HistoryRow). (key_of (primary_of s) r.1, r)) rows in
    let table : FinMap key_cmp HistoryRow = from_entries entries in
    sym (contains_key-keys table q) ∙ ap is_some (get-from_entries key_total entries q) ∙ is_some-find key_cmp q entries ∙ list_any-keys (primary_of s) q rows

none-keys_in : (s : TableSchema) (rows : List HistoryRow) (q : Values) → has q (keys_in s rows) ≡ false → rows_of (primary_of s) q rows ≡ []
none-keys_in s rows q e = rows_of-none (primary_of s) q rows (sym (has-keys_in s rows q) ∙ e)

-- ---- parts that tell old and new rows

and_second : (a b : Bool) → (a && b) ≡ true → b ≡ true
and_second true b e = e
and_second false b e = cc

stays : (m : FinMap key_cmp Values) (k q : Values) (w : Option Values) → get m k ≡ w → get m q ≡ cond (eq_by_cmp key_cmp q k) w (get m q)
stays m k q w is =
    elim (eq_by_cmp key_cmp q k) as (λ t. eq_by_cmp key_cmp q k ≡ t → get m q ≡ cond t w (get m q)) [
      | true ↦ λ t. ap (get m) (tied q k t) ∙ is
      | false ↦ λ t. refl
    ] refl

told-at : (s : TableSchema) (equal_out : Bool) (k : Values) (o w : Option Values) → HasKey s k o → HasKey s k w
    → (m : FinMap key_cmp Values) (b : Bool) → get m k ≡ cond b w o → (q : Values) → get (replay s m (told equal_out o w)) q ≡ cond (eq_by_cmp key_cmp q k) w (get m q)
told-at s equal_out k None None old_key new_key m b is q =
    stays m k q None (is ∙ elim b as (λ b. ◌≡◌ {A = Option Values} (cond b None None) None) [ true ↦ refl | false ↦ refl ])
told-at s equal_out k None (Some new) old_key new_key m b is q =
    after_line-at s m (Insert, new) q ∙ ap (λ key. cond (eq_by_cmp key_cmp q key) (Some new) (get m q)) (new_key new refl)
told-at s equal_out k (Some old) None old_key new_key m b is q =
    after_line-at s m (Delete, old) q ∙ ap (λ key. cond (eq_by_cmp key_cmp q key) None (get m q)) (old_key old refl)
told-at s equal_out k (Some old) (Some new) old_key new_key m b is q =
    let pair : List HistoryRow = (UpdateBefore, old) ∷ (UpdateAfter, new) ∷ [] in
    let before : FinMap key_cmp Values = after_line s m (UpdateBefore, old) in
    elim (equal_out && eq_by_cmp key_cmp old new) as (λ t. (equal_out && eq_by_cmp key_cmp old new) ≡ t → get (replay s m (cond t [] pair)) q ≡ cond (eq_by_cmp key_cmp q k) (Some new) (get m q)) [
      | true ↦ λ t.
          let same : old ≡ new = tied old new (and_second equal_out (eq_by_cmp key_cmp old new) t) in
          stays m k q (Some new) (is ∙ elim b as (λ b. cond b (Some new) (Some old) ≡ Some new) [ true ↦ refl | false ↦ ap Some same ])
      | false ↦ λ t.
          after_line-at s before (UpdateAfter, new) q
          ∙ ap (cond (eq_by_cmp key_cmp q (key_of (primary_of s) new)) (Some new)) (after_line-at s m (UpdateBefore, old) q)
          ∙ ap (λ key. cond (eq_by_cmp key_cmp q key) (Some new) (cond (eq_by_cmp key_cmp q (key_of (primary_of s) old)) None (get m q))) (new_key new refl)
          ∙ ap (λ key. cond (eq_by_cmp key_cmp q k) (Some new) (cond (eq_by_cmp key_cmp q key) None (get m q))) (old_key old refl)
          ∙ elim (eq_by_cmp key_cmp q k) as (λ t. cond t (Some new) (cond t None (get m q)) ≡ cond t (Some new) (get m q)) [ true ↦ refl | false ↦ refl ]
    ] refl

turns-told : (s : TableSchema) (equal_out : Bool) (old new : Values → Option Values) → ((k : Values) → HasKey s k (old k)) → ((k : Values) → HasKey s k (new k))
    → Turns s old new (λ k. told equal_out (old k) (new k))
turns-told s equal_out old new old_keys new_keys k m b is q =
    told-at s equal_out k (old k) (new k) (old_keys k) (new_keys k) m b is q
    ∙ elim (eq_by_cmp key_cmp q k) as (λ t. eq_by_cmp key_cmp q k ≡ t → cond t (new k) (get m q) ≡ cond t (new q) (get m q)) [
      | true ↦ λ t. ap new (sym (tied q k t))
      | false ↦ λ t. refl
    ] refl

-- ---- parts that have the rows as given

turns-rows : (s : TableSchema) (old new : Values → Option Values) (rows : List HistoryRow) → ((k : Values) → new k ≡ latest (old k) (rows_of (primary_of s) k rows))
    → Turns s old new (λ k. rows_of (primary_of s) k rows)
turns-rows s old new rows is k m b before q =
    let own = rows_of (primary_of s) k rows in
    replay-at s own m q
    ∙ elim (eq_by_cmp key_cmp q k) as (λ t. eq_by_cmp key_cmp q k ≡ t → latest (get m q) (rows_of (primary_of s) q own) ≡ cond t (new q) (get m q)) [
      | true ↦ λ t.
          subst (λ x. latest (get m x) (rows_of (primary_of s) x own) ≡ new x) (sym (tied q k t))
          (ap (latest (get m k)) (rows_of-same (primary_of s) k rows) ∙ ap (λ o. latest o own) before
          ∙ elim b as (λ b. latest (cond b (new k) (old k)) own ≡ new k) [
            | true ↦ ap (λ o. latest o own) (is k) ∙ latest-same (old k) own ∙ sym (is k)
            | false ↦ sym (is k)
          ])
      | false ↦ λ t. ap (latest (get m q)) (rows_of-other (primary_of s) q k rows t)
    ] refl

-- what `merged_table_law` says
abbrev Merges : Type 0
Merges = (s : TableSchema) (rows : List HistoryRow) (q : Values) → get (merged s rows) q ≡ merged_row s rows q

merged-key : Merges → (s : TableSchema) (rows : List HistoryRow) → AllFit s.columns rows → (k : Values) → HasKey s k (get (merged s rows) k)
merged-key merges s rows fit k row is = merged_row-key s rows k fit row (sym (merges s rows k) ∙ is)

-- ---- one row more, with deduplication

column_last : (s : TableSchema) → s.options.engine ≡ engines.Deduplicate → (own : List HistoryRow) (r : HistoryRow) → last_or None own ≡ Some r → length r.1 ≡ length s.columns
    → (i : ℕ) → column_value s i own ≡ value_at r.1 i
unfolding column_value
column_last s is own r last fit i =
    elim (slice_get_cases s.columns i).1 [
      | inl within ↦
          let c : Column = within.0 in
          ap (λ o. option_map_or (value_in s i own) o Null) within.2
          ∙ ap (λ engine. cond (is_key s c) (last_value (values_at i own)) (value_by engine s c i own)) is
          ∙ elim (is_key s c) as (λ b. cond b (last_value (values_at i own)) (last_value (values_at i own)) ≡ value_at r.1 i) [
            | true ↦ last_value-is own r i last
            | false ↦ last_value-is own r i last
          ]
      | inr past ↦
          ap (λ o. option_map_or (value_in s i own) o Null) past.1
          ∙ sym (get_or_past r.1 i Null (subst (λ n. n ≤ i) (sym fit) past.0))
    ]

values_last : (s : TableSchema) → s.options.engine ≡ engines.Deduplicate → (own : List HistoryRow) (r : HistoryRow) → last_or None own ≡ Some r → Fits s.columns r.1 → values_of s own ≡ r.1
values_last s is own r last fits =
    let fit = length-fits s.columns r.1 fits in
    (λ i. map (λ index. column_last s is own r last fit index i) (range_with_len 0 (length s.columns)))
    ∙ subst (λ n. map (λ index. value_at r.1 index) (range_with_len 0 n) ≡ r.1) fit (values_at_indexes [] r.1)

abbrev row_from : TableSchema → List HistoryRow → Option Values
row_from s own = cond (shows s own) (Some (values_of s own)) None

row_last : (s : TableSchema) → s.options.engine ≡ engines.Deduplicate → (own : List HistoryRow) (r : HistoryRow) → last_or None own ≡ Some r → Fits s.columns r.1 → row_from s own ≡ left r
row_last s is own r last fits =
    ap (λ engine. cond (shows_by engine own) (Some (values_of s own)) None) is
    ∙ ap (λ o. cond (option_map_or (λ (r : HistoryRow). not (retracts r.0)) o false) (Some (values_of s own)) None) last
    ∙ ap (λ row. cond (not (retracts r.0)) (Some row) None) (values_last s is own r last fits)
    ∙ elim (retracts r.0) as (λ b. cond (not b) (Some r.1) None ≡ cond b None (Some r.1)) [ true ↦ refl | false ↦ refl ]

merged_row-next : (s : TableSchema) → s.options.engine ≡ engines.Deduplicate → (rows : List HistoryRow) (r : HistoryRow) (q : Values) → Fits s.columns r.1
    → merged_row s (rows ++ r ∷ []) q ≡ cond (eq_by_cmp key_cmp q (key_of (primary_of s) r.1)) (left r) (merged_row s rows q)
merged_row-next s is rows r q fits =
    let own = rows_of (primary_of s) q rows in
    ap (row_from s) (filter-append (λ (x : HistoryRow). eq_by_cmp key_cmp q (key_of (primary_of s) x.1)) rows (r ∷ []))
    ∙ elim (eq_by_cmp key_cmp q (key_of (primary_of s) r.1)) as (λ b. row_from s (own ++ cond b (r ∷ []) []) ≡ cond b (left r) (row_from s own)) [
      | true ↦ row_last s is (own ++ r ∷ []) r (last_or-push None own r) fits
      | false ↦ ap (row_from s) (append-nil own)
    ]

merged_row-more : (s : TableSchema) → s.options.engine ≡ engines.Deduplicate → (before rows : List HistoryRow) (q : Values) → AllFit s.columns rows
    → merged_row s (before ++ rows) q ≡ latest (merged_row s before q) (rows_of (primary_of s) q rows)
merged_row-more s is before [] q fit = ap (λ rows. merged_row s rows q) (append-nil before)
merged_row-more s is before (r ∷ rows) q fit =
    let own = rows_of (primary_of s) q rows in
    ap (λ rows. merged_row s rows q) (sym (append_assoc before (r ∷ []) rows))
    ∙ merged_row-more s is (before ++ r ∷ []) rows q fit.1
    ∙ ap (λ o. latest o own) (merged_row-next s is before r q fit.0)
    ∙ elim (eq_by_cmp key_cmp q (key_of (primary_of s) r.1)) as (λ b. latest (cond b (left r) (merged_row s before q)) own ≡ latest (merged_row s before q) (cond b (r ∷ own) own)) [
      | true ↦ refl
      | false ↦ refl
    ]

-- ---- rows of a history

map-numbered : (P : HistoryRow → Type 0) (p : NumberedRow → Bool) (k : ℕ) (rows : List HistoryRow) → AllByRecursion P rows
    → AllByRecursion P (map (λ (r : NumberedRow). r.1) (filter p (map (λ (r : HistoryRow). (k, r)) rows)))
map-numbered P p k [] all = tt
map-numbered P p k (r ∷ rows) all =
    let kept : List NumberedRow = filter p (map (λ (r : HistoryRow). (k, r)) rows) in
    elim (p (k, r)) as (λ b. AllByRecursion P (map (λ (r : NumberedRow). r.1) (cond b ((k, r) ∷ kept) kept))) [
      | true ↦ (all.0, map-numbered P p k rows all.1)
      | false ↦ map-numbered P p k rows all.1
    ]

all-numbered : (P : HistoryRow → Type 0) (p : NumberedRow → Bool) (k : ℕ) (entries : List Entry) → AllByRecursion P (flat_map entry_rows entries)
    → AllByRecursion P (map (λ (r : NumberedRow). r.1) (filter p (numbered_from k entries)))
all-numbered P p k [] all = tt
all-numbered P p k (entry ∷ entries) all =
    let first : List NumberedRow = map (λ (r : HistoryRow). (k, r)) (entry_rows entry) in
    let parts = AllByRecursion-parts P (entry_rows entry) (flat_map entry_rows entries) all in
    subst (AllByRecursion P)
    (sym (ap (map (λ (r : NumberedRow). r.1)) (filter-append p first (numbered_from (k + 1) entries)) ∙ map-append (λ (r : NumberedRow). r.1) (filter p first) (filter p (numbered_from (k + 1) entries))))
    (AllByRecursion-append P (map (λ (r : NumberedRow). r.1) (filter p first)) (map (λ (r : NumberedRow). r.1) (filter p (numbered_from (k + 1) entries)))
    (map-numbered P p k (entry_rows entry) parts.0) (all-numbered P p (k + 1) entries parts.1))

-- rows of a key of which none is new
rows_of-still : (primary : List ℕ) (q : Values) (before now : NumberedRow → Bool) → ((r : NumberedRow) → before r ≡ true → now r ≡ true) → (rows : List NumberedRow)
    → list_any (λ (r : HistoryRow). eq_by_cmp key_cmp q (key_of primary r.1)) (map (λ (r : NumberedRow). r.1) (filter (λ r. now r && not (before r)) rows)) ≡ false
    → rows_of primary q (map (λ (r : NumberedRow). r.1) (filter before rows)) ≡ rows_of primary q (map (λ (r : NumberedRow). r.1) (filter now rows))
rows_of-still primary q before now more [] none = refl
rows_of-still primary q before now more (r ∷ rows) none =
    let of : List NumberedRow → List HistoryRow = map (λ (r : NumberedRow). r.1) in
    let old : List NumberedRow = filter before rows in
    let all : List NumberedRow = filter now rows in
    let new : List NumberedRow = filter (λ r. now r && not (before r)) rows in
    let is_own : HistoryRow → Bool = λ r. eq_by_cmp key_cmp q (key_of primary r.1) in
    let rest : list_any is_own (of new) ≡ false → rows_of primary q (of old) ≡ rows_of primary q (of all) = rows_of-still primary q before now more rows in
    elim (before r) as (λ b. before r ≡ b → list_any is_own (of (cond (now r && not b) (r ∷ new) new)) ≡ false → rows_of primary q (of (cond b (r ∷ old) old)) ≡ rows_of primary q (of (cond (now r) (r ∷ all) all))) [
      | true ↦ λ b.
          subst (λ n. list_any is_own (of (cond (n && false) (r ∷ new) new)) ≡ false → rows_of primary q (of (r ∷ old)) ≡ rows_of primary q (of (cond n (r ∷ all) all))) (sym (more r b))
          (λ none. elim (is_own r.1) as (λ t. cond t (r.1 ∷ rows_of primary q (of old)) (rows_of primary q (of old)) ≡ cond t (r.1 ∷ rows_of primary q (of all)) (rows_of primary q (of all))) [
            | true ↦ ap (λ xs. r.1 ∷ xs) (rest none)
            | false ↦ rest none
          ])
      | false ↦ λ b. elim (now r) as (λ n. list_any is_own (of (cond (n && true) (r ∷ new) new)) ≡ false → rows_of primary q (of old) ≡ rows_of primary q (of (cond n (r ∷ all) all))) [
        | true ↦ elim (is_own r.1) as (λ t. (t || list_any is_own (of new)) ≡ false → rows_of primary q (of old) ≡ cond t (r.1 ∷ rows_of primary q (of all)) (rows_of primary q (of all))) [
          | true ↦ λ none. cc
          | false ↦ rest
        ]
        | false ↦ rest
      ]
    ] refl none

-- the rows up to a number are those up to the one before, and its own
rows_by-split : (n k : ℕ) (entries : List Entry) → 1 ≤ k
    → rows_by (λ j. leb j n) k entries ≡ rows_by (λ j. leb j (n - 1)) k entries ++ rows_by (λ j. eqb j n) k entries
rows_by-split n k [] first = refl
rows_by-split n k (entry ∷ entries) first =
    let all = rows_by (λ j. leb j n) (k + 1) entries in
    let old = rows_by (λ j. leb j (n - 1)) (k + 1) entries in
    let own = rows_by (λ j. eqb j n) (k + 1) entries in
    let rows = entry_rows entry in
    let rest : all ≡ old ++ own = rows_by-split n (k + 1) entries (omega arith) in
    let by : (a b c : Bool) → leb k n ≡ a → leb k (n - 1) ≡ b → eqb k n ≡ c → cond a rows [] ++ all ≡ (cond b rows [] ++ old) ++ (cond c rows [] ++ own)
    → rows_by (λ j. leb j n) k (entry ∷ entries) ≡ rows_by (λ j. leb j (n - 1)) k (entry ∷ entries) ++ rows_by (λ j. eqb j n) k (entry ∷ entries) =
    λ a b c is_a is_b is_c same.
    rows_by-cons (λ j. leb j n) k entry entries ∙ ap (λ t. cond t rows [] ++ all) is_a ∙ same
    ∙ sym (λ i. (rows_by-cons (λ j. leb j (n - 1)) k entry entries ∙ ap (λ t. cond t rows [] ++ old) is_b) i ++ (rows_by-cons (λ j. eqb j n) k entry entries ∙ ap (λ t. cond t rows [] ++ own) is_c) i) in
    elim (cases_lt n k) [
      | inl past ↦ by false false false (not_leb k n past) (not_leb k (n - 1) (omega arith)) (ne_eqb k n (λ e. lt_irrefl n (subst (λ x. n < x) e past))) rest
      | inr within ↦ elim (cases_lt k n) [
        | inl below ↦
            by true true false (le-leb k n within) (le-leb k (n - 1) (omega arith)) (ne_eqb k n (λ e. lt_irrefl n (subst (λ x. x < n) e below)))
            (ap (λ xs. rows ++ xs) rest ∙ sym (append_assoc rows old own))
        | inr above ↦
            let none : old ≡ [] = rows_by-none (λ j. leb j (n - 1)) (k + 1) entries (λ j over. not_leb j (n - 1) (omega arith)) in
            by true false true (le-leb k n within) (not_leb k (n - 1) (omega arith)) (eq-eqb k n (omega arith))
            (ap (λ xs. rows ++ xs) (rest ∙ ap (λ xs. xs ++ own) none) ∙ ap (λ xs. xs ++ (rows ++ own)) (sym none))
      ]
    ]

-- ---- a change

-- the rows that are passed on with the producer of inputs
passed_rows-input : (s : TableSchema) (entries : List Entry) (n : ℕ) → s.options.producer ≡ producers.Input → passed_rows s entries n ≡ rows_by (λ j. leb j n) 1 entries
passed_rows-input s entries n is =
    ap (λ (p : Producer). map (λ (r : NumberedRow). r.1) (filter (λ (r : NumberedRow). leb r.0 (passed p entries n (group_of s r.1.1))) (numbered_rows entries))) is

followed-input : Merges → (s : TableSchema) (entries : List Entry) (n : ℕ) → s.options.producer ≡ producers.Input → s.options.engine ≡ engines.Deduplicate → AllFit s.columns (flat_map entry_rows entries)
    → (q : Values) → get (followed s entries n) q ≡ latest (get (followed s entries (n - 1)) q) (rows_of (primary_of s) q (rows_at entries n))
followed-input merges s entries n input engine fit q =
    let old = passed_rows s entries (n - 1) in
    let own = rows_at entries n in
    let split : passed_rows s entries n ≡ old ++ own =
    passed_rows-input s entries n input ∙ rows_by-split n 1 entries (le_refl 1) ∙ ap (λ xs. xs ++ own) (sym (passed_rows-input s entries (n - 1) input)) in
    merges s (passed_rows s entries n) q ∙ ap (λ rows. merged_row s rows q) split
    ∙ merged_row-more s engine old own q (all-numbered (λ (r : HistoryRow). Fits s.columns r.1) (λ (r : NumberedRow). eqb r.0 n) 1 entries fit)
    ∙ ap (λ o. latest o (rows_of (primary_of s) q own)) (sym (merges s old q))

replay-input : Merges → (s : TableSchema) (entries : List Entry) (n : ℕ) → s.options.producer ≡ producers.Input → s.options.engine ≡ engines.Deduplicate → AllFit s.columns (flat_map entry_rows entries)
    → replay s (followed s entries (n - 1)) (by_key s (rows_at entries n)) ≡ followed s entries n
replay-input merges s entries n input engine fit =
    let old = followed s entries (n - 1) in
    let new = followed s entries n in
    let own = rows_at entries n in
    let turned = followed-input merges s entries n input engine fit in
    replay-parts s old new (λ key. rows_of (primary_of s) key own) (keys_in s own) (turns-rows s (get old) (get new) own turned)
    (λ q none. sym (turned q ∙ ap (latest (get old q)) (none-keys_in s own q none)))

replay-told : Merges → (s : TableSchema) (entries : List Entry) (n : ℕ) → AllFit s.columns (flat_map entry_rows entries)
    → replay s (followed s entries (n - 1)) (flat_map (told_at s entries n) (keys_in s (newly_passed s entries n))) ≡ followed s entries n
replay-told merges s entries n fit =
    let old = passed_rows s entries (n - 1) in
    let new = passed_rows s entries n in
    let fits : (m : ℕ) → AllFit s.columns (passed_rows s entries m) = λ m. all-numbered (λ (r : HistoryRow). Fits s.columns r.1) (is_passed s entries m) 1 entries fit in
    replay-parts s (merged s old) (merged s new) (told_at s entries n) (keys_in s (newly_passed s entries n))
    (turns-told s (leaves_out_equal s s.options.engine) (get (merged s old)) (get (merged s new)) (merged-key merges s old (fits (n - 1))) (merged-key merges s new (fits n)))
    (λ q none.
    let own : rows_of (primary_of s) q old ≡ rows_of (primary_of s) q new =
    rows_of-still (primary_of s) q (is_passed s entries (n - 1)) (is_passed s entries n) (λ r. is_passed_more s entries (n - 1) n r (omega arith)) (numbered_rows entries)
    (sym (has-keys_in s (newly_passed s entries n) q) ∙ none) in
    merges s old q ∙ ap (row_from s) own ∙ sym (merges s new q))

-- the change of a snapshot takes what was passed on before it to what is passed on at it
pub replay-change : Merges → (s : TableSchema) (entries : List Entry) (n : ℕ) → s.options.producer ≢ producers.None → (s.options.producer ≡ producers.Input → s.options.engine ≡ engines.Deduplicate)
    → AllFit s.columns (flat_map entry_rows entries) → replay s (followed s entries (n - 1)) (change s entries n) ≡ followed s entries n
replay-change merges s entries n follows engine fit =
    elim s.options.producer as (λ p. s.options.producer ≡ p → replay s (followed s entries (n - 1)) (change_by p s entries n) ≡ followed s entries n) [
      | producers.None ↦ λ is. absurd (follows is)
      | producers.Input ↦ λ is. replay-input merges s entries n is (engine is) fit
      | producers.Lookup ↦ λ is. replay-told merges s entries n fit
      | producers.FullCompaction ↦ λ is. replay-told merges s entries n fit
    ] refl

-- so do the changes of several
pub replay-changes : ((s : TableSchema) (entries : List Entry) (n : ℕ) → s.options.producer ≢ producers.None → (s.options.producer ≡ producers.Input → s.options.engine ≡ engines.Deduplicate)
    → AllFit s.columns (flat_map entry_rows entries) → replay s (followed s entries (n - 1)) (change s entries n) ≡ followed s entries n)
    → (s : TableSchema) (entries : List Entry) (n count : ℕ) → s.options.producer ≢ producers.None → (s.options.producer ≡ producers.Input → s.options.engine ≡ engines.Deduplicate)
    → AllFit s.columns (flat_map entry_rows entries) → replay s (followed s entries n) (flat_map (change s entries) (range_with_len (n + 1) count)) ≡ followed s entries (n + count)
replay-changes one s entries n zero follows engine fit = let same : n ≡ n + 0 = omega arith in ap (followed s entries) same
replay-changes one s entries n (suc count) follows engine fit =
    let before : n ≡ (n + 1) - 1 = omega arith in
    let end : (n + 1) + count ≡ n + suc count = omega arith in
    let later = flat_map (change s entries) (range_with_len ((n + 1) + 1) count) in
    fold-append (after_line s) (followed s entries n) (change s entries (n + 1)) later
    ∙ ap (λ m. replay s (replay s (followed s entries m) (change s entries (n + 1))) later) before
    ∙ ap (λ (t : FinMap key_cmp Values). replay s t later) (one s entries (n + 1) follows engine fit)
    ∙ replay-changes one s entries (n + 1) count follows engine fit
    ∙ ap (followed s entries) end
