-- The change of a compaction's snapshot, of one group.
use Rattle.std.proofs.Common.{◌≡◌, ◌↔◌, inl, inr, eqb, ℕ, zero, suc, ◌+◌, ◌-◌, ◌≤◌, leb, List, [], ◌∷◌, ◌++◌, T, map, filter, take, drop, length, append-nil, Bool, true, false, cond, not, ◌&&◌, ◌||◌, Some, None, refl, sym, ap, subst, ◌∙◌, arith}
use Rattle.std.specs.FinMap.{FinMap, entries as entries_of, entries_sorted, from_entries, contains_key-keys, get-from_entries}
use Rattle.std.specs.FinMap.Entries.{below_all, find, is_sorted, is_some-find, same_entries}
use Rattle.std.specs.List.{AllByRecursion, AllZip, flat_map, list_any}
use Rattle.std.specs.List.Sorted.{IsStrictlySortedBy}
use Rattle.std.specs.Cmp.{Equal-is}
use Rattle.std.specs.Option.{is_some}
use Rattle.std.specs.Ordering.{eq_by_cmp, is_lt}
use Rattle.std.specs.declared.cmp.Ordering.TheVariants.{Less}
use Rattle.std.proofs.lemmas.Bool.{cases_lt, eq-eqb, le-leb, ne_eqb}
use Rattle.std.proofs.lemmas.List.{take-append-le}
use Rattle.std.proofs.lemmas.List.Elements.{filter-append}
use Rattle.pm_options.specs.declared.kinds.Producer.{Producer}
use Rattle.pm_options.specs.declared.kinds.Producer.TheVariants as producers
use Rattle.pm_values.specs.GroupOrder.{group_cmp}
use Rattle.pm_values.specs.Order.{Values, key_cmp, key_total}
use Rattle.pm_values.specs.declared.group.Group.{Group}
use Rattle.pm_values.specs.declared.record.Stamped.{Stamped}
use Rattle.pm_values.proofs.Lemmas.{group_cmp-IsAntisymmetric, key_cmp-IsAntisymmetric}
use Rattle.pm_schema.specs.Rules.{partition_holds}
use Rattle.pm_schema.specs.declared.schema.TableSchema.{TableSchema}
use Rattle.pm_model_history.specs.History.{Entry, entry_rows}
use Rattle.pm_model_history.specs.Merge.{AllFit, HistoryRow, key_of, rows_of}
use Rattle.pm_model_history.specs.Merged.{primary_of}
use Rattle.pm_engine.specs.Covers.{Covers, CoversAll, Holds, IsRising, Run, of_key, stored_rows}
use Rattle.pm_engine.specs.Meaning.{Meaning}
use Rattle.pm_engine.specs.OfSchema.{meaning_of}
use Rattle.pm_model_following.specs.Following.{NumberedRow, by_key, change, change_by, compacted, is_passed, keys_in, leaves_out_equal, newly_passed, numbered_rows, passed, rows_at, told, told_at}
use Rattle.pm_model_following.specs.Groups.{group_of, rows_in}
use Rattle.pm_model_changelog.specs.Log.{Compares, IsKeyOf, Passing, PassesNothing, PassesOn, log_of, rising_keys, shown_of, told_by}
use Rattle.pm_model_changelog.proofs.GroupLemmas.{same_group}
use Rattle.pm_model_following.proofs.FollowingLemmas.{not_leb, rows_by, rows_by-cons, rows_by-none}
use Rattle.pm_model_changelog.proofs.LogLemmas.{HiddenLaw, WorthLaw, shown-covered}
use Rattle.pm_model_changelog.proofs.PassingLemmas.{after-same, before-is, covers-joined, now-is, stays}
use Rattle.pm_model_changelog.proofs.OrderLemmas.{all-any, each-later, first_of, flat-same, given-groups, has-row, in-group, is_in, keyed, table_of, told-groups}

-- ---- the rows that are newly passed on, of the group

abbrev between_test : ℕ → ℕ → ℕ → Bool
between_test a b j = leb j b && not (leb j a)

and_left_false : (a b : Bool) → a ≡ false → (a && b) ≡ false
and_left_false true b e = cc
and_left_false false b e = refl

rows_by-between : (a b k : ℕ) (es : List Entry) → a ≤ b → rows_by (between_test a b) k es ≡ flat_map entry_rows (drop ((a + 1) - k) (take ((b + 1) - k) es))
rows_by-between a b k [] low =
    elim ((b + 1) - k) as (λ m. [] ≡ flat_map entry_rows (drop ((a + 1) - k) (take m []))) [
      | zero ↦ elim ((a + 1) - k) as (λ n. [] ≡ flat_map entry_rows (drop n [])) [ zero ↦ refl | suc n ↦ refl ]
      | suc m ↦ elim ((a + 1) - k) as (λ n. [] ≡ flat_map entry_rows (drop n [])) [ zero ↦ refl | suc n ↦ refl ]
    ]
rows_by-between a b k (e ∷ es) low = elim (cases_lt b k) [
  | inl past ↦
      rows_by-none (between_test a b) k (e ∷ es) (λ j above. and_left_false (leb j b) (not (leb j a)) (not_leb j b (omega arith)))
      ∙ (let gone : 0 ≡ (b + 1) - k = omega arith in
      elim ((a + 1) - k) as (λ n. [] ≡ flat_map entry_rows (drop n (take 0 (e ∷ es)))) [ zero ↦ refl | suc n ↦ refl ]
      ∙ ap (λ m. flat_map entry_rows (drop ((a + 1) - k) (take m (e ∷ es)))) gone)
  | inr within ↦
      let one : suc ((b + 1) - (k + 1)) ≡ (b + 1) - k = omega arith in
      let rest : List HistoryRow = rows_by (between_test a b) (k + 1) es in
      rows_by-cons (between_test a b) k e es
      ∙ ap (λ t. cond (t && not (leb k a)) (entry_rows e) [] ++ rest) (le-leb k b within)
      ∙ elim (cases_lt a k) [
        | inl over ↦
            let none : (a + 1) - k ≡ 0 = omega arith in
            let none_later : (a + 1) - (k + 1) ≡ 0 = omega arith in
            ap (λ t. cond (not t) (entry_rows e) [] ++ rest) (not_leb k a over)
            ∙ ap (λ xs. entry_rows e ++ xs) (rows_by-between a b (k + 1) es low ∙ ap (λ n. flat_map entry_rows (drop n (take ((b + 1) - (k + 1)) es))) none_later)
            ∙ ap (λ m. flat_map entry_rows (drop 0 (take m (e ∷ es)))) one
            ∙ ap (λ n. flat_map entry_rows (drop n (take ((b + 1) - k) (e ∷ es)))) (sym none)
        | inr under ↦
            let first : suc ((a + 1) - (k + 1)) ≡ (a + 1) - k = omega arith in
            ap (λ t. cond (not t) (entry_rows e) [] ++ rest) (le-leb k a under)
            ∙ rows_by-between a b (k + 1) es low
            ∙ ap (λ m. flat_map entry_rows (drop (suc ((a + 1) - (k + 1))) (take m (e ∷ es)))) one
            ∙ ap (λ n. flat_map entry_rows (drop n (take ((b + 1) - k) (e ∷ es)))) first
      ]
]

module _ (s : TableSchema) (g : Group) where
  in-rows : List NumberedRow → List HistoryRow
  in-rows xs = rows_in s g (map (λ (r : NumberedRow). r.1) xs)

  -- those of the group that are passed on now and weren't before
  newly-in : (es : List Entry) (n m : ℕ) (xs : List NumberedRow)
      → rows_in s g (map (λ (r : NumberedRow). r.1) (filter (λ r. is_passed s es n r && not (is_passed s es m r)) xs))
      ≡ rows_in s g (map (λ (r : NumberedRow). r.1) (filter (λ (r : NumberedRow). between_test (passed s.options.producer es m g) (passed s.options.producer es n g) r.0) xs))
  newly-in es n m [] = refl
  newly-in es n m (r ∷ xs) =
      at (is_in s g r.1) refl (filter (λ r. is_passed s es n r && not (is_passed s es m r)) xs)
      (filter (λ (r : NumberedRow). between_test (passed s.options.producer es m g) (passed s.options.producer es n g) r.0) xs) (newly-in es n m xs)
    where
      put : (b : Bool) (ys : List NumberedRow) → is_in s g r.1 ≡ false → rows_in s g (map (λ (r : NumberedRow). r.1) (cond b (r ∷ ys) ys)) ≡ rows_in s g (map (λ (r : NumberedRow). r.1) ys)
      put true ys apart = ap (λ t. cond t (r.1 ∷ rows_in s g (map (λ (r : NumberedRow). r.1) ys)) (rows_in s g (map (λ (r : NumberedRow). r.1) ys))) apart
      put false ys apart = refl

      both : (b : Bool) (ys zs : List NumberedRow) → rows_in s g (map (λ (r : NumberedRow). r.1) ys) ≡ rows_in s g (map (λ (r : NumberedRow). r.1) zs)
          → rows_in s g (map (λ (r : NumberedRow). r.1) (cond b (r ∷ ys) ys)) ≡ rows_in s g (map (λ (r : NumberedRow). r.1) (cond b (r ∷ zs) zs))
      both true ys zs same = ap (λ ws. cond (is_in s g r.1) (r.1 ∷ ws) ws) same
      both false ys zs same = same

      at : (t : Bool) → is_in s g r.1 ≡ t → (ys zs : List NumberedRow) → rows_in s g (map (λ (r : NumberedRow). r.1) ys) ≡ rows_in s g (map (λ (r : NumberedRow). r.1) zs)
          → rows_in s g (map (λ (r : NumberedRow). r.1) (cond (is_passed s es n r && not (is_passed s es m r)) (r ∷ ys) ys))
          ≡ rows_in s g (map (λ (r : NumberedRow). r.1) (cond (between_test (passed s.options.producer es m g) (passed s.options.producer es n g) r.0) (r ∷ zs) zs))
      at true is ys zs rest =
          let group : group_of s r.1.1 ≡ g = group_cmp-IsAntisymmetric (group_of s r.1.1) g ((Equal-is (group_cmp (group_of s r.1.1) g)).0 is) in
          ap (λ (h : Group). rows_in s g (map (λ (r : NumberedRow). r.1) (cond (between_test (passed s.options.producer es m h) (passed s.options.producer es n h) r.0) (r ∷ ys) ys))) group
          ∙ both (between_test (passed s.options.producer es m g) (passed s.options.producer es n g) r.0) ys zs rest
      at false is ys zs rest =
          put (is_passed s es n r && not (is_passed s es m r)) ys is ∙ rest
          ∙ sym (put (between_test (passed s.options.producer es m g) (passed s.options.producer es n g) r.0) zs is)

-- ---- keys that rise

-- whether a key is among these
abbrev pub has : Values → List Values → Bool
has q keys = list_any (eq_by_cmp key_cmp q) keys

-- keys with nothing beside them
abbrev pub alone : List Values → List (Values × ℕ)
alone ks = map (λ (k : Values). (k, 0)) ks

below-alone : (x : Values) (ks : List Values) → AllByRecursion (λ (y : Values). key_cmp x y ≡ Less) ks → T (below_all key_cmp x (alone ks))
below-alone x [] all = tt
below-alone x (k ∷ ks) all = subst (λ o. T (is_lt o && below_all key_cmp x (alone ks))) (sym all.0) (below-alone x ks all.1)

both-T : (a b : Bool) → T a → T b → T (a && b)
both-T true b p q = q
both-T false b p q = p

pub first-T : (a b : Bool) → T (a && b) → T a
first-T true b p = tt
first-T false b p = p

pub second-T : (a b : Bool) → T (a && b) → T b
second-T true b p = p
second-T false b p = absurd p

sorted-alone : (ks : List Values) → IsStrictlySortedBy key_cmp ks → T (is_sorted key_cmp (alone ks))
unfolding IsStrictlySortedBy
sorted-alone [] rising = tt
sorted-alone (k ∷ ks) rising = both-T (below_all key_cmp k (alone ks)) (is_sorted key_cmp (alone ks)) (below-alone k ks rising.0) (sorted-alone ks rising.1)

below-keys : {A : Type 0} (x : Values) (es : List (Values × A)) → T (below_all key_cmp x es) → T (below_all key_cmp x (alone (map (λ (e : Values × A). e.0) es)))
below-keys x [] low = tt
below-keys x (e ∷ es) low =
    both-T (is_lt (key_cmp x e.0)) _ (first-T (is_lt (key_cmp x e.0)) (below_all key_cmp x es) low) (below-keys x es (second-T (is_lt (key_cmp x e.0)) (below_all key_cmp x es) low))

sorted-keys : {A : Type 0} (es : List (Values × A)) → T (is_sorted key_cmp es) → T (is_sorted key_cmp (alone (map (λ (e : Values × A). e.0) es)))
sorted-keys [] low = tt
sorted-keys (e ∷ es) low =
    both-T (below_all key_cmp e.0 (alone (map (λ x. x.0) es))) (is_sorted key_cmp (alone (map (λ x. x.0) es)))
    (below-keys e.0 es (first-T (below_all key_cmp e.0 es) (is_sorted key_cmp es) low)) (sorted-keys es (second-T (below_all key_cmp e.0 es) (is_sorted key_cmp es) low))

find-alone : (q : Values) (ks : List Values) → find key_cmp q (alone ks) ≡ cond (has q ks) (Some 0) None
find-alone q [] = refl
find-alone q (k ∷ ks) = elim (eq_by_cmp key_cmp q k) as (λ t. cond t (Some 0) (find key_cmp q (alone ks)) ≡ cond (t || has q ks) (Some 0) None) [ true ↦ refl | false ↦ find-alone q ks ]

keys-alone : (ks : List Values) → map (λ (e : Values × ℕ). e.0) (alone ks) ≡ ks
keys-alone [] = refl
keys-alone (k ∷ ks) = ap (λ xs. k ∷ xs) (keys-alone ks)

-- rising keys that are the same are one list
keys-same : (ks js : List Values) → T (is_sorted key_cmp (alone ks)) → T (is_sorted key_cmp (alone js)) → ((q : Values) → has q ks ≡ has q js) → ks ≡ js
keys-same ks js low high same =
    sym (keys-alone ks)
    ∙ ap (map (λ (e : Values × ℕ). e.0))
    (same_entries key_cmp key_total key_cmp-IsAntisymmetric (alone ks) (alone js) low high
    (λ q. find-alone q ks ∙ ap (λ t. cond t (Some 0) None) (same q) ∙ sym (find-alone q js)))
    ∙ keys-alone js

-- the keys of rows rise
pub rows-rise : (s : TableSchema) (rows : List HistoryRow) → T (is_sorted key_cmp (alone (keys_in s rows)))
rows-rise s rows = sorted-keys (entries_of (table_of s rows)) (entries_sorted (table_of s rows))

-- ---- the keys of runs

-- some items
abbrev pub are_some : {A : Type 0} → List A → Bool
are_some [] = false
are_some (x ∷ xs) = true

-- a run has a row of the key
abbrev have_key : List Run → Values → Bool
have_key runs key = list_any (λ (run : Run). are_some (of_key key run)) runs

abbrev keyed_run : Run → List (Values × Stamped)
keyed_run run = map (λ (r : Stamped). (r.key, r)) run

-- the runs by the keys of their rows
abbrev run_table : List Run → FinMap key_cmp Stamped
run_table runs = from_entries (keyed_run (flat_map (λ (run : Run). run) runs))

has-of_key : (q : Values) (run : Run) → list_any (eq_by_cmp key_cmp q) (map (λ (e : Values × Stamped). e.0) (keyed_run run)) ≡ are_some (of_key q run)
has-of_key q [] = refl
has-of_key q (r ∷ run) =
    elim (eq_by_cmp key_cmp q r.key) as (λ t. (t || list_any (eq_by_cmp key_cmp q) (map (λ (e : Values × Stamped). e.0) (keyed_run run))) ≡ are_some (cond t (r ∷ of_key q run) (of_key q run))) [
      | true ↦ refl
      | false ↦ has-of_key q run
    ]

has-run : (q : Values) (run : Run) → has q (map (λ (r : Stamped). r.key) run) ≡ are_some (of_key q run)
has-run q [] = refl
has-run q (r ∷ run) =
    elim (eq_by_cmp key_cmp q r.key) as (λ t. (t || has q (map (λ (r : Stamped). r.key) run)) ≡ are_some (cond t (r ∷ of_key q run) (of_key q run))) [ true ↦ refl | false ↦ has-run q run ]

some-append : {A : Type 0} (xs ys : List A) → are_some (xs ++ ys) ≡ (are_some xs || are_some ys)
some-append [] ys = refl
some-append (x ∷ xs) ys = refl

some-runs : (q : Values) (runs : List Run) → are_some (of_key q (flat_map (λ (run : Run). run) runs)) ≡ have_key runs q
some-runs q [] = refl
some-runs q (run ∷ runs) =
    ap are_some (filter-append (λ (r : Stamped). eq_by_cmp key_cmp q r.key) run (flat_map (λ (run : Run). run) runs))
    ∙ some-append (of_key q run) (of_key q (flat_map (λ (run : Run). run) runs))
    ∙ ap (λ t. are_some (of_key q run) || t) (some-runs q runs)

-- whether runs have a key
has-rising : (q : Values) (runs : List Run) → has q (rising_keys runs) ≡ are_some (of_key q (flat_map (λ (run : Run). run) runs))
has-rising q runs =
    let rows : Run = flat_map (λ (run : Run). run) runs in
    sym (contains_key-keys (run_table runs) q) ∙ ap is_some (get-from_entries key_total (keyed_run rows) q) ∙ is_some-find key_cmp q (keyed_run rows) ∙ has-of_key q rows

runs-rise : (runs : List Run) → T (is_sorted key_cmp (alone (rising_keys runs)))
runs-rise runs = sorted-keys (entries_of (run_table runs)) (entries_sorted (run_table runs))

some-same : {A B : Type 0} (xs : List A) (ys : List B) → (xs ≡ []) ↔ (ys ≡ []) → are_some xs ≡ are_some ys
some-same [] [] both = refl
some-same [] (y ∷ ys) both = let bad : y ∷ ys ≡ [] = both.0 refl in cc
some-same (x ∷ xs) [] both = let bad : x ∷ xs ≡ [] = both.1 refl in cc
some-same (x ∷ xs) (y ∷ ys) both = refl

-- they are those of a run that rises and has the same
pub run-keys : (runs : List Run) (run : Run) → IsRising run → ((key : Values) → (of_key key run ≡ []) ↔ (of_key key (flat_map (λ (r : Run). r) runs) ≡ []))
    → map (λ (r : Stamped). r.key) run ≡ rising_keys runs
run-keys runs run rising same =
    keys-same (map (λ (r : Stamped). r.key) run) (rising_keys runs) (sorted-alone (map (λ (r : Stamped). r.key) run) rising) (runs-rise runs)
    (λ q. has-run q run ∙ some-same (of_key q run) (of_key q (flat_map (λ (r : Run). r) runs)) (same q) ∙ sym (has-rising q runs))

-- ---- the keys of runs that lack nothing

some-filter : (primary : List ℕ) (q : Values) (rows : List HistoryRow)
    → list_any (eq_by_cmp key_cmp q) (map (λ (e : Values × HistoryRow). e.0) (map (λ (r : HistoryRow). (key_of primary r.1, r)) rows)) ≡ are_some (rows_of primary q rows)
some-filter primary q [] = refl
some-filter primary q (r ∷ rows) =
    elim (eq_by_cmp key_cmp q (key_of primary r.1)) as (λ t. (t || list_any (eq_by_cmp key_cmp q) (map (λ (e : Values × HistoryRow). e.0) (map (λ (r : HistoryRow). (key_of primary r.1, r)) rows)))
    ≡ are_some (cond t (r ∷ rows_of primary q rows) (rows_of primary q rows))) [ true ↦ refl | false ↦ some-filter primary q rows ]

pub has-keys : (s : TableSchema) (rows : List HistoryRow) (q : Values) → has q (keys_in s rows) ≡ are_some (rows_of (primary_of s) q rows)
has-keys s rows q =
    sym (contains_key-keys (table_of s rows) q) ∙ ap is_some (get-from_entries key_total (keyed s rows) q) ∙ is_some-find key_cmp q (keyed s rows) ∙ some-filter (primary_of s) q rows

some-part : (m : Meaning) (key : Values) (own : Run) (part : List HistoryRow) → Holds m key own part → are_some part ≡ are_some own
some-part m key [] part none = ap are_some none
some-part m key (x ∷ []) [] speaks = absurd (speaks.some refl)
some-part m key (x ∷ []) (r ∷ part) speaks = refl
some-part m key (x ∷ y ∷ own) part held = absurd held

some-parts : (m : Meaning) (key : Values) (runs : List Run) (parts : List (List HistoryRow)) → AllZip (λ (run : Run) (part : List HistoryRow). Holds m key (of_key key run) part) runs parts
    → are_some (flat_map (λ part. part) parts) ≡ have_key runs key
some-parts m key [] [] all = refl
some-parts m key [] (part ∷ parts) all = absurd all
some-parts m key (run ∷ runs) [] all = absurd all
some-parts m key (run ∷ runs) (part ∷ parts) all =
    some-append part (flat_map (λ part. part) parts)
    ∙ ap (λ t. t || are_some (flat_map (λ part. part) parts)) (some-part m key (of_key key run) part all.0)
    ∙ ap (λ t. are_some (of_key key run) || t) (some-parts m key runs parts all.1)

-- ---- runs that cover the same

-- the keys of runs are those of the rows that they cover without lack
have-covered : (m : Meaning) (runs : List Run) (rows : List HistoryRow) → CoversAll m runs rows → (q : Values) → are_some (rows_of m.primary q rows) ≡ has q (rising_keys runs)
have-covered m runs rows covers q =
    let c = covers q in
    ap are_some c.split ∙ some-parts m q runs c.parts c.holds ∙ sym (has-rising q runs ∙ some-runs q runs)

-- what is told, and of which keys, depends on what the runs cover
pub log-same : WorthLaw → HiddenLaw → (s : TableSchema) (older newer older_too newer_too : List Run) (rows more : List HistoryRow)
    → Covers (meaning_of s) older rows → Covers (meaning_of s) older_too rows → CoversAll (meaning_of s) newer more → CoversAll (meaning_of s) newer_too more
    → log_of s older newer ≡ log_of s older_too newer_too
log-same worth hidden s older newer older_too newer_too rows more covers covers_too lacks_none lacks_none_too =
    let m : Meaning = meaning_of s in
    let all = covers-joined m older newer rows more covers lacks_none in
    let all_too = covers-joined m older_too newer_too rows more covers_too lacks_none_too in
    let shown : (runs too : List Run) (covered : List HistoryRow) → Covers m runs covered → Covers m too covered → (key : Values) → shown_of s (stored_rows key runs) ≡ shown_of s (stored_rows key too) =
    λ runs too covered one two key. sym (shown-covered worth hidden s runs covered key one) ∙ shown-covered worth hidden s too covered key two in
    flat-same (told_by s older newer) (told_by s older_too newer_too) (rising_keys newer)
    (each-later (λ (key : Values). list_any (eq_by_cmp key_cmp key) (rising_keys newer) ≡ true) (λ (key : Values). told_by s older newer key ≡ told_by s older_too newer_too key)
    (λ key any. λ i. told (leaves_out_equal s s.options.engine) (shown older older_too rows covers covers_too key i) (shown (older ++ newer) (older_too ++ newer_too) (rows ++ more) all all_too key i))
    (rising_keys newer) (all-any (rising_keys newer)))
    ∙ ap (flat_map (told_by s older_too newer_too))
    (keys-same (rising_keys newer) (rising_keys newer_too) (runs-rise newer) (runs-rise newer_too)
    (λ q. sym (have-covered m newer more lacks_none q) ∙ have-covered m newer_too more lacks_none_too q))

-- ---- the change

pub change-by : (p : Producer) (wholly : Bool) (s : TableSchema) (es : List Entry) (n : ℕ) → Compares p wholly → change_by p s es n ≡ flat_map (told_at s es n) (keys_in s (newly_passed s es n))
change-by producers.None wholly s es n compares = absurd compares
change-by producers.Input wholly s es n compares = absurd compares
change-by producers.Lookup wholly s es n compares = refl
change-by producers.FullCompaction wholly s es n compares = refl

-- what `told_keys_law` and `told_law` say
abbrev pub KeysLaw : Type 0
KeysLaw = (s : TableSchema) (entries : List Entry) (n : ℕ) (key : Values) → AllFit s.columns (flat_map entry_rows entries)
    → AllByRecursion (λ (r : HistoryRow). key_of (primary_of s) r.1 ≡ key) (told_at s entries n key)

abbrev ToldLaw : Type 0
ToldLaw = (s : TableSchema) (g : Group) (entries : List Entry) (e : Entry) (wholly : Bool) (p : Passing) (key : Values) → Compares s.options.producer wholly → PassesOn s g entries e wholly p → IsKeyOf s g key
    → told_at s (entries ++ e ∷ []) (suc (length entries)) key ≡ told_by s p.older p.newer key

-- of the group's part, by the keys of its rows
change-in : KeysLaw → (s : TableSchema) (g : Group) (es : List Entry) (n : ℕ) (wholly : Bool) → Compares s.options.producer wholly → partition_holds s ≡ true → AllFit s.columns (flat_map entry_rows es)
    → rows_in s g (change s es n) ≡ flat_map (told_at s es n) (keys_in s (rows_in s g (newly_passed s es n)))
change-in keyed s g es n wholly compares holds fit =
    ap (rows_in s g) (change-by s.options.producer wholly s es n compares)
    ∙ told-groups s g (told_at s es n) (newly_passed s es n) holds (λ key. keyed s es n key fit)

module _ (keyed_law : KeysLaw) (told_law : ToldLaw) (s : TableSchema) (g : Group) (entries : List Entry) (e : Entry) (wholly : Bool) (p : Passing)
    (holds : partition_holds s ≡ true) (fit : AllFit s.columns (flat_map entry_rows (entries ++ e ∷ []))) (compares : Compares s.options.producer wholly) (on : PassesOn s g entries e wholly p) where
  abbrev last : ℕ
  last = length entries

  abbrev longer : List Entry
  longer = entries ++ e ∷ []

  abbrev start : ℕ
  start = compacted wholly entries p.base g

  abbrev now : ℕ
  now = compacted wholly entries last g

  abbrev own : List HistoryRow
  own = rows_in s g (newly_passed s longer (suc last))

  own-is : own ≡ rows_in s g (flat_map entry_rows (drop start (take p.base entries)))
  own-is =
      let one : suc last - 1 ≡ last = omega arith in
      let first : (now + 1) - 1 ≡ now = omega arith in
      let end : (p.base + 1) - 1 ≡ p.base = omega arith in
      let low : now ≤ p.base = let above = on.above in omega (arith, above) in
      newly-in s g longer (suc last) (suc last - 1) (numbered_rows longer)
      ∙ ap (λ m. rows_in s g (rows_by (between_test (passed s.options.producer longer m g) (passed s.options.producer longer (suc last) g)) 1 longer)) one
      ∙ ap (λ a. rows_in s g (rows_by (between_test a (passed s.options.producer longer (suc last) g)) 1 longer)) (before-is s.options.producer g entries e wholly compares)
      ∙ ap (λ b. rows_in s g (rows_by (between_test now b) 1 longer)) (now-is s.options.producer g entries e wholly compares p.base on.named on.above)
      ∙ ap (rows_in s g) (rows_by-between now p.base 1 longer low)
      ∙ ap (λ n. rows_in s g (flat_map entry_rows (drop n (take ((p.base + 1) - 1) longer)))) first
      ∙ ap (λ n. rows_in s g (flat_map entry_rows (drop now (take n longer)))) end
      ∙ ap (λ es. rows_in s g (flat_map entry_rows (drop now es))) (take-append-le p.base entries (e ∷ []) on.within)
      ∙ after-same s g entries e wholly p on

  same-keys : (q : Values) → has q (keys_in s own) ≡ has q (rising_keys p.newer)
  same-keys q =
      has-keys s own q ∙ ap (λ rows. are_some (rows_of (primary_of s) q rows)) own-is
      ∙ have-covered (meaning_of s) p.newer (rows_in s g (flat_map entry_rows (drop start (take p.base entries)))) on.newer_cover q

  key-in : (key : Values) → list_any (eq_by_cmp key_cmp key) (keys_in s own) ≡ true → IsKeyOf s g key
  key-in key any row is =
      let r = has-row s own key any in
      let there : first_of s own key ≡ Some r.0 = sym (get-from_entries key_total (keyed s own) key) ∙ r.1 in
      let inside : is_in s g r.0 ≡ true = in-group s g (newly_passed s longer (suc last)) key r.0 there in
      same_group s row r.0.1 holds (is ∙ sym r.2) ∙ group_cmp-IsAntisymmetric (group_of s r.0.1) g ((Equal-is (group_cmp (group_of s r.0.1) g)).0 inside)

  pub change-told : rows_in s g (change s longer (suc last)) ≡ log_of s p.older p.newer
  change-told =
      change-in keyed_law s g longer (suc last) wholly compares holds fit
      ∙ flat-same (told_at s longer (suc last)) (told_by s p.older p.newer) (keys_in s own)
      (each-later (λ (key : Values). list_any (eq_by_cmp key_cmp key) (keys_in s own) ≡ true) (λ (key : Values). told_at s longer (suc last) key ≡ told_by s p.older p.newer key)
      (λ key any. told_law s g entries e wholly p key compares on (key-in key any))
      (keys_in s own) (all-any (keys_in s own)))
      ∙ ap (flat_map (told_by s p.older p.newer)) (keys-same (keys_in s own) (rising_keys p.newer) (rows-rise s own) (runs-rise p.newer) same-keys)

-- ---- no change

never : (a j : ℕ) → between_test a a j ≡ false
never a j = elim (leb j a) as (λ t. (t && not t) ≡ false) [ true ↦ refl | false ↦ refl ]

no-keys : (s : TableSchema) → keys_in s [] ≡ []
no-keys s = keys-same (keys_in s []) [] (rows-rise s []) tt (λ q. has-keys s [] q)

pub change-none : KeysLaw → (s : TableSchema) (g : Group) (entries : List Entry) (e : Entry) (wholly : Bool) → partition_holds s ≡ true → AllFit s.columns (flat_map entry_rows (entries ++ e ∷ []))
    → Compares s.options.producer wholly → PassesNothing g entries e wholly → rows_in s g (change s (entries ++ e ∷ []) (suc (length entries))) ≡ []
change-none keyed_law s g entries e wholly holds fit compares nothing =
    let longer : List Entry = entries ++ e ∷ [] in
    let n : ℕ = suc (length entries) in
    let one : n - 1 ≡ length entries = omega arith in
    let before : ℕ = passed s.options.producer longer (n - 1) g in
    let same : passed s.options.producer longer n g ≡ before =
    stays s.options.producer g entries e wholly compares nothing ∙ ap (λ m. passed s.options.producer longer m g) (sym one) in
    let gone : rows_in s g (newly_passed s longer n) ≡ [] =
    newly-in s g longer n (n - 1) (numbered_rows longer)
    ∙ ap (λ b. rows_in s g (rows_by (between_test before b) 1 longer)) same
    ∙ ap (rows_in s g) (rows_by-none (between_test before before) 1 longer (λ j above. never before j)) in
    change-in keyed_law s g longer n wholly compares holds fit
    ∙ ap (λ rows. flat_map (told_at s longer n) (keys_in s rows)) gone
    ∙ ap (flat_map (told_at s longer n)) (no-keys s)

-- ---- rows as given

-- the rows of the last entry
rows-last : (k : ℕ) (entries : List Entry) (e : Entry) → rows_by (λ j. eqb j (k + length entries)) k (entries ++ e ∷ []) ≡ entry_rows e
rows-last k [] e =
    let same : k + 0 ≡ k = omega arith in
    rows_by-cons (λ j. eqb j (k + 0)) k e []
    ∙ ap (λ m. cond (eqb k m) (entry_rows e) [] ++ []) same
    ∙ ap (λ b. cond b (entry_rows e) [] ++ []) (eq-eqb k k refl)
    ∙ append-nil (entry_rows e)
rows-last k (first ∷ entries) e =
    let next : k + suc (length entries) ≡ (k + 1) + length entries = omega arith in
    rows_by-cons (λ j. eqb j (k + suc (length entries))) k first (entries ++ e ∷ [])
    ∙ ap (λ b. cond b (entry_rows first) [] ++ rows_by (λ j. eqb j (k + suc (length entries))) (k + 1) (entries ++ e ∷ [])) (ne_eqb k (k + suc (length entries)) (λ same. omega (arith, same)))
    ∙ ap (λ m. rows_by (λ j. eqb j m) (k + 1) (entries ++ e ∷ [])) next
    ∙ rows-last (k + 1) entries e

pub change-given : (s : TableSchema) (g : Group) (entries : List Entry) (e : Entry) → partition_holds s ≡ true → s.options.producer ≡ producers.Input
    → rows_in s g (change s (entries ++ e ∷ []) (suc (length entries))) ≡ by_key s (rows_in s g (entry_rows e))
change-given s g entries e holds input =
    let longer : List Entry = entries ++ e ∷ [] in
    let n : ℕ = suc (length entries) in
    let one : n ≡ 1 + length entries = omega arith in
    ap (λ (p : Producer). rows_in s g (change_by p s longer n)) input
    ∙ given-groups s g (rows_at longer n) holds
    ∙ ap (λ rows. by_key s (rows_in s g rows)) (ap (λ m. rows_by (λ j. eqb j m) 1 longer) one ∙ rows-last 1 entries e)
