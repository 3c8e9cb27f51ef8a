-- Rows that have of each group the change's part of it, by rising key.
use Rattle.std.proofs.Common.{◌≡◌, ◌≢◌, ◌||◌, ℕ, List, [], ◌∷◌, ◌++◌, T, drop, true, false, cond, refl, sym, ap, subst, ◌∙◌, append-nil}
use Rattle.std.specs.FinMap.Entries.{below_all, is_sorted}
use Rattle.std.specs.List.{AllByRecursion, flat_map}
use Rattle.std.specs.Cmp.{tied_itself}
use Rattle.std.specs.Ordering.{eq_by_cmp, is_eq, is_lt, ordering_reverse}
use Rattle.std.specs.declared.cmp.Ordering.{Ordering}
use Rattle.std.specs.declared.cmp.Ordering.TheVariants.{Less, Equal, Greater}
use Rattle.std.proofs.lemmas.List.Elements.{filter-append}
use Rattle.pm_base.proofs.Laws.{AllByRecursion-append}
use Rattle.pm_options.specs.declared.kinds.Producer.{Producer}
use Rattle.pm_options.specs.declared.kinds.Producer.TheVariants as producers
use Rattle.pm_schema.specs.Rules.{partition_holds}
use Rattle.pm_schema.specs.declared.schema.TableSchema.{TableSchema}
use Rattle.pm_values.specs.GroupOrder.{group_total}
use Rattle.pm_values.specs.Order.{Values, key_cmp, key_total}
use Rattle.pm_values.specs.declared.group.Group.{Group}
use Rattle.pm_values.proofs.Lemmas.{key_cmp-IsAntisymmetric}
use Rattle.pm_model_history.specs.History.{Entry, entry_rows}
use Rattle.pm_model_history.specs.Merge.{AllFit, HistoryRow, key_of, rows_of}
use Rattle.pm_model_history.specs.Merged.{primary_of}
use Rattle.pm_engine.proofs.Rising.{tied, ties_itself}
use Rattle.pm_model_following.specs.Following.{by_key, change, change_by, keys_in, newly_passed, rows_at, told_at}
use Rattle.pm_model_following.specs.Groups.{group_of, rows_in}
use Rattle.pm_model_changelog.specs.Log.{AreByKey}
use Rattle.pm_model_changelog.proofs.ChangeLemmas.{KeysLaw, alone, are_some, first-T, has, has-keys, rows-rise, second-T}
use Rattle.pm_model_changelog.proofs.GroupLemmas.{key_rows_in}
use Rattle.pm_model_changelog.proofs.OrderLemmas.{keys-of, of-key}

less-is : (o : Ordering) → T (is_lt o) → o ≡ Less
less-is Less t = refl
less-is Equal t = absurd t
less-is Greater t = absurd t

module _ (s : TableSchema) where
  abbrev key : HistoryRow → Values
  key r = key_of (primary_of s) r.1

  abbrev own : Values → List HistoryRow → List HistoryRow
  own k rows = rows_of (primary_of s) k rows

  -- each row has the key
  abbrev HaveKey : Values → List HistoryRow → Type 0
  HaveKey k rows = AllByRecursion (λ (r : HistoryRow). key r ≡ k) rows

  -- the key is below that of each row
  abbrev IsBelow : Values → List HistoryRow → Type 0
  IsBelow k rows = AllByRecursion (λ (r : HistoryRow). key_cmp k (key r) ≡ Less) rows

  -- ---- rows by rising key are one list where each key has the same

  none-own : (k : Values) (rows : List HistoryRow) → IsBelow k rows → own k rows ≡ []
  none-own k [] below = refl
  none-own k (r ∷ rows) below = ap (λ o. cond (is_eq o) (r ∷ own k rows) (own k rows)) below.0 ∙ none-own k rows below.1

  first-own : (r : HistoryRow) (rows : List HistoryRow) → own (key r) (r ∷ rows) ≡ r ∷ own (key r) rows
  first-own r rows = ap (λ b. cond b (r ∷ own (key r) rows) (own (key r) rows)) (ties_itself (key r))

  below-from : (k l m : Values) → key_cmp k l ≡ Less → key_cmp l m ≢ Greater → key_cmp k m ≡ Less
  below-from k l m less low =
      elim (key_cmp l m) as (λ o. key_cmp l m ≡ o → key_cmp k m ≡ Less) [
        | Less ↦ λ o. key_total.trans k l m less o
        | Equal ↦ λ o. ap (key_cmp k) (sym (key_cmp-IsAntisymmetric l m o)) ∙ less
        | Greater ↦ λ o. absurd (low o)
      ] refl

  below-all : (k l : Values) (rows : List HistoryRow) → key_cmp k l ≡ Less → AllByRecursion (λ (x : HistoryRow). key_cmp l (key x) ≢ Greater) rows → IsBelow k rows
  below-all k l [] less low = tt
  below-all k l (r ∷ rows) less low = (below-from k l (key r) less low.0, below-all k l rows less low.1)

  -- a key below that of the first row has no row
  none-first : (k : Values) (r : HistoryRow) (rows : List HistoryRow) → key_cmp k (key r) ≡ Less → AreByKey s (r ∷ rows) → own k (r ∷ rows) ≡ []
  none-first k r rows less rise = none-own k (r ∷ rows) (less, below-all k (key r) rows less rise.0)

  not-none : (r : HistoryRow) (rows none : List HistoryRow) → own (key r) (r ∷ rows) ≡ none → none ≡ [] → ⊥
  not-none r rows none is gone = let bad : r ∷ own (key r) rows ≡ [] = sym (first-own r rows) ∙ is ∙ gone in cc

  abbrev head_or : HistoryRow → List HistoryRow → HistoryRow
  head_or r [] = r
  head_or r (x ∷ xs) = x

  module _ (x y : HistoryRow) (xs ys : List HistoryRow) (same : (k : Values) → own k (x ∷ xs) ≡ own k (y ∷ ys)) (tie : key x ≡ key y) where
    heads : x ∷ own (key x) xs ≡ y ∷ own (key x) ys
    heads =
        sym (first-own x xs) ∙ same (key x)
        ∙ ap (λ b. cond b (y ∷ own (key x) ys) (own (key x) ys)) (ap (λ k. eq_by_cmp key_cmp k (key y)) tie ∙ ties_itself (key y))

    head : x ≡ y
    head = ap (head_or x) heads

    rest : (k : Values) → own k xs ≡ own k ys
    rest k =
        elim (eq_by_cmp key_cmp k (key x)) as (λ b. eq_by_cmp key_cmp k (key x) ≡ b → own k xs ≡ own k ys) [
          | true ↦ λ b. subst (λ q. own q xs ≡ own q ys) (sym (tied k (key x) b)) (ap (drop 1) heads)
          | false ↦ λ b.
              sym (ap (λ t. cond t (x ∷ own k xs) (own k xs)) b) ∙ same k
              ∙ ap (λ t. cond t (y ∷ own k ys) (own k ys)) (ap (eq_by_cmp key_cmp k) (sym tie) ∙ b)
        ] refl

  one-list : (xs ys : List HistoryRow) → AreByKey s xs → AreByKey s ys → ((k : Values) → own k xs ≡ own k ys) → xs ≡ ys
  one-list [] [] rise rise_too same = refl
  one-list [] (y ∷ ys) rise rise_too same = absurd (not-none y ys [] (sym (same (key y))) refl)
  one-list (x ∷ xs) [] rise rise_too same = absurd (not-none x xs [] (same (key x)) refl)
  one-list (x ∷ xs) (y ∷ ys) rise rise_too same =
      elim (key_cmp (key x) (key y)) as (λ o. key_cmp (key x) (key y) ≡ o → x ∷ xs ≡ y ∷ ys) [
        | Less ↦ λ o. absurd (not-none x xs (own (key x) (y ∷ ys)) (same (key x)) (none-first (key x) y ys o rise_too))
        | Equal ↦ λ o.
            let tie : key x ≡ key y = key_cmp-IsAntisymmetric (key x) (key y) o in
            let first : x ≡ y = head x y xs ys same tie in
            let later : xs ≡ ys = one-list xs ys rise.1 rise_too.1 (rest x y xs ys same tie) in
            λ i. first i ∷ later i
        | Greater ↦ λ o.
            let back : key_cmp (key y) (key x) ≡ Less = key_total.antisymm (key y) (key x) ∙ ap ordering_reverse o in
            absurd (not-none y ys (own (key y) (x ∷ xs)) (sym (same (key y))) (none-first (key y) x xs back rise))
      ] refl

  -- ---- the change is by rising key

  keyed-rise : (k : Values) (rows : List HistoryRow) → HaveKey k rows → AreByKey s rows
  keyed-rise k [] all = tt
  keyed-rise k (r ∷ rows) all = (at rows all.1, keyed-rise k rows all.1)
    where
      at : (xs : List HistoryRow) → HaveKey k xs → AllByRecursion (λ (x : HistoryRow). key_cmp (key r) (key x) ≢ Greater) xs
      at [] have = tt
      at (x ∷ xs) have =
          ((λ above. let bad : Equal ≡ Greater = sym (tied_itself key_total k) ∙ (λ i. key_cmp (sym all.0 i) (sym have.0 i)) ∙ above in cc), at xs have.1)

  join-rise : (k : Values) (xs ys : List HistoryRow) → HaveKey k xs → IsBelow k ys → AreByKey s ys → AreByKey s (xs ++ ys)
  join-rise k [] ys have below rise = rise
  join-rise k (x ∷ xs) ys have below rise =
      (AllByRecursion-append (λ (z : HistoryRow). key_cmp (key x) (key z) ≢ Greater) xs ys (keyed-rise k (x ∷ xs) have).0 (at ys below), join-rise k xs ys have.1 below rise)
    where
      at : (zs : List HistoryRow) → IsBelow k zs → AllByRecursion (λ (z : HistoryRow). key_cmp (key x) (key z) ≢ Greater) zs
      at [] low = tt
      at (z ∷ zs) low = ((λ above. let bad : Less ≡ Greater = sym low.0 ∙ ap (λ q. key_cmp q (key z)) (sym have.0) ∙ above in cc), at zs low.1)

  own-all : (k l : Values) (rows : List HistoryRow) → eq_by_cmp key_cmp k l ≡ true → HaveKey l rows → own k rows ≡ rows
  own-all k l [] e all = refl
  own-all k l (r ∷ rows) e all =
      ap (λ b. cond b (r ∷ own k rows) (own k rows)) (ap (eq_by_cmp key_cmp k) all.0 ∙ e) ∙ ap (λ ys. r ∷ ys) (own-all k l rows e all.1)

  own-none : (k l : Values) (rows : List HistoryRow) → eq_by_cmp key_cmp k l ≡ false → HaveKey l rows → own k rows ≡ []
  own-none k l [] e all = refl
  own-none k l (r ∷ rows) e all =
      ap (λ b. cond b (r ∷ own k rows) (own k rows)) (ap (eq_by_cmp key_cmp k) all.0 ∙ e) ∙ own-none k l rows e all.1

  module _ (tell : Values → List HistoryRow) (have : (k : Values) → HaveKey k (tell k)) where
    tell-below : (k l : Values) (rows : List HistoryRow) → key_cmp k l ≡ Less → HaveKey l rows → IsBelow k rows
    tell-below k l [] less all = tt
    tell-below k l (r ∷ rows) less all = (ap (key_cmp k) all.0 ∙ less, tell-below k l rows less all.1)

    flat-below : (k : Values) (ks : List Values) → T (below_all key_cmp k (alone ks)) → IsBelow k (flat_map tell ks)
    flat-below k [] low = tt
    flat-below k (l ∷ ks) low =
        AllByRecursion-append (λ (r : HistoryRow). key_cmp k (key r) ≡ Less) (tell l) (flat_map tell ks)
        (tell-below k l (tell l) (less-is (key_cmp k l) (first-T (is_lt (key_cmp k l)) (below_all key_cmp k (alone ks)) low)) (have l))
        (flat-below k ks (second-T (is_lt (key_cmp k l)) (below_all key_cmp k (alone ks)) low))

    flat-rise : (ks : List Values) → T (is_sorted key_cmp (alone ks)) → AreByKey s (flat_map tell ks)
    flat-rise [] low = tt
    flat-rise (k ∷ ks) low =
        join-rise k (tell k) (flat_map tell ks) (have k)
        (flat-below k ks (first-T (below_all key_cmp k (alone ks)) (is_sorted key_cmp (alone ks)) low))
        (flat-rise ks (second-T (below_all key_cmp k (alone ks)) (is_sorted key_cmp (alone ks)) low))

    -- of each key that is told of it has what is told
    own-told : (k : Values) (ks : List Values) → T (is_sorted key_cmp (alone ks)) → own k (flat_map tell ks) ≡ cond (has k ks) (tell k) []
    own-told k [] low = refl
    own-told k (l ∷ ks) low =
        filter-append (λ (r : HistoryRow). eq_by_cmp key_cmp k (key r)) (tell l) (flat_map tell ks)
        ∙ elim (eq_by_cmp key_cmp k l) as (λ t. eq_by_cmp key_cmp k l ≡ t → own k (tell l) ++ own k (flat_map tell ks) ≡ cond (t || has k ks) (tell k) []) [
          | true ↦ λ e.
              ap (λ ys. ys ++ own k (flat_map tell ks)) (own-all k l (tell l) e (have l))
              ∙ ap (λ ys. tell l ++ ys)
              (subst (λ q. own q (flat_map tell ks) ≡ []) (sym (tied k l e))
              (none-own l (flat_map tell ks) (flat-below l ks (first-T (below_all key_cmp l (alone ks)) (is_sorted key_cmp (alone ks)) low))))
              ∙ append-nil (tell l) ∙ ap tell (sym (tied k l e))
          | false ↦ λ e.
              ap (λ ys. ys ++ own k (flat_map tell ks)) (own-none k l (tell l) e (have l))
              ∙ own-told k ks (second-T (below_all key_cmp l (alone ks)) (is_sorted key_cmp (alone ks)) low)
        ] refl

  some-or : (rows : List HistoryRow) → cond (are_some rows) rows [] ≡ rows
  some-or [] = refl
  some-or (r ∷ rows) = refl

  pub given-rise : (rows : List HistoryRow) → AreByKey s (by_key s rows)
  given-rise rows = flat-rise (λ k. own k rows) (λ k. keys-of (primary_of s) k rows) (keys_in s rows) (rows-rise s rows)

  pub given-own : (k : Values) (rows : List HistoryRow) → own k (by_key s rows) ≡ own k rows
  given-own k rows =
      own-told (λ k. own k rows) (λ k. keys-of (primary_of s) k rows) k (keys_in s rows) (rows-rise s rows)
      ∙ ap (λ b. cond b (own k rows) []) (has-keys s rows k) ∙ some-or (own k rows)

  pub only-given : (rows given : List HistoryRow) → AreByKey s rows → ((k : Values) → own k rows ≡ own k given) → rows ≡ by_key s given
  only-given rows given rise same = one-list rows (by_key s given) rise (given-rise given) (λ k. same k ∙ sym (given-own k given))

  change-rise : KeysLaw → (p : Producer) (entries : List Entry) (n : ℕ) → AllFit s.columns (flat_map entry_rows entries) → AreByKey s (change_by p s entries n)
  change-rise law producers.None entries n fit = tt
  change-rise law producers.Input entries n fit =
      given-rise (rows_at entries n)
  change-rise law producers.Lookup entries n fit =
      flat-rise (told_at s entries n) (λ k. law s entries n k fit) (keys_in s (newly_passed s entries n)) (rows-rise s (newly_passed s entries n))
  change-rise law producers.FullCompaction entries n fit =
      flat-rise (told_at s entries n) (λ k. law s entries n k fit) (keys_in s (newly_passed s entries n)) (rows-rise s (newly_passed s entries n))

  -- ---- parts of groups

  -- the rows of a key lie in the group of one of them
  whole : partition_holds s ≡ true → (k : Values) (r : HistoryRow) → key r ≡ k → (rows : List HistoryRow) → own k (rows_in s (group_of s r.1) rows) ≡ own k rows
  whole holds k r is rows =
      let g : Group = group_of s r.1 in
      key_rows_in s k g rows ∙ of-key s g r k (own k rows) holds is (keys-of (primary_of s) k rows)
      ∙ ap (λ b. cond b (own k rows) []) (ap is_eq (tied_itself group_total g))

  module _ (holds : partition_holds s ≡ true) (xs ys : List HistoryRow) (same : (g : Group) → rows_in s g xs ≡ rows_in s g ys) (k : Values) where
    by-row : (r : HistoryRow) → key r ≡ k → own k xs ≡ own k ys
    by-row r is = sym (whole holds k r is xs) ∙ ap (own k) (same (group_of s r.1)) ∙ whole holds k r is ys

    key-same : own k xs ≡ own k ys
    key-same = at (own k xs) (own k ys) refl refl
      where
        at : (us vs : List HistoryRow) → own k xs ≡ us → own k ys ≡ vs → own k xs ≡ own k ys
        at [] [] none none_too = none ∙ sym none_too
        at [] (r ∷ vs) none some = by-row r (subst (HaveKey k) some (keys-of (primary_of s) k ys)).0
        at (r ∷ us) vs some other = by-row r (subst (HaveKey k) some (keys-of (primary_of s) k xs)).0

  pub parts-same : KeysLaw → (entries : List Entry) (n : ℕ) (rows : List HistoryRow) → partition_holds s ≡ true → AllFit s.columns (flat_map entry_rows entries)
      → ((g : Group) → rows_in s g rows ≡ rows_in s g (change s entries n)) → by_key s rows ≡ change s entries n
  parts-same law entries n rows holds fit same =
      one-list (by_key s rows) (change s entries n) (given-rise rows) (change-rise law s.options.producer entries n fit)
      (λ k. given-own k rows ∙ key-same holds rows (change s entries n) same k)
