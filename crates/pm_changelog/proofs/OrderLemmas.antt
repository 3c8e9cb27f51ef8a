-- Rows that were sorted by key are the rows as they were, by key.
use Rattle.std.proofs.Common.{◌≡◌, ◌≢◌, ℕ, suc, ◌+◌, List, [], ◌∷◌, get_or, map, true, false, cond, not, Option, Some, None, refl, sym, ap, subst, ◌∙◌, arith}
use Rattle.std.specs.List.{AllByRecursion}
use Rattle.std.specs.List.Sorted.{IsSortedBy, IsStableByKey}
use Rattle.std.specs.Ordering.{eq_by_cmp, is_gt, is_lt, ordering_reverse}
use Rattle.std.specs.declared.cmp.Ordering.{Ordering}
use Rattle.std.specs.declared.cmp.Ordering.TheVariants.{Less, Equal, Greater}
use Rattle.pm_values.specs.Order.{Values, key_cmp, key_total}
use Rattle.pm_values.specs.declared.record.Stamped.{Stamped}
use Rattle.pm_values.proofs.Lemmas.{key_cmp-IsAntisymmetric}
use Rattle.pm_schema.specs.declared.schema.TableSchema.{TableSchema}
use Rattle.pm_model_history.specs.Merge.{HistoryRow, key_of, rows_of}
use Rattle.pm_model_history.specs.Merged.{primary_of}
use Rattle.pm_engine.specs.Covers.{of_key, row_of}
use Rattle.pm_engine.proofs.Rising.{of_key-sorted}
use Rattle.pm_run.specs.Order.{are_in_order, may_follow}
use Rattle.pm_run.proofs.OrderLemmas.{both, in_order-first}
use Rattle.pm_model_changelog.specs.Log.{AreByKey}

-- rows by rising key, as a sort gives them
abbrev pub AreSorted : List Stamped → Type 0
AreSorted rows = IsSortedBy (λ (a b : Stamped). is_lt (key_cmp a.key b.key)) rows

sorted-rest : (x : Stamped) (rows : List Stamped) → AreSorted (x ∷ rows) → AreSorted rows
sorted-rest x rows sorted =
    λ k d low inside. later k d (sorted (suc k) d (omega arith) (omega arith))
  where
    shifted : (k : ℕ) → suc k + 1 ≡ suc (k + 1)
    shifted k = omega arith

    later : (k : ℕ) (d : Stamped) → is_lt (key_cmp (get_or (x ∷ rows) (suc k + 1) d).key (get_or (x ∷ rows) (suc k) d).key) ≡ false
        → is_lt (key_cmp (get_or rows (k + 1) d).key (get_or rows k d).key) ≡ false
    later k d h = subst (λ n. is_lt (key_cmp (get_or (x ∷ rows) n d).key (get_or rows k d).key) ≡ false) (shifted k) h

not-above : (a b : Values) → is_lt (key_cmp b a) ≡ false → not (is_gt (key_cmp a b)) ≡ true
not-above a b e =
    elim (key_cmp a b) as (λ o. is_lt (ordering_reverse o) ≡ false → not (is_gt o) ≡ true) [
      | Less ↦ λ e. refl
      | Equal ↦ λ e. refl
      | Greater ↦ λ e. sym e
    ] (ap is_lt (sym (key_total.antisymm b a)) ∙ e)

-- ---- the order of a changelog file

order-after : (x : Stamped) (rows : List Stamped) → AreSorted (x ∷ rows) → are_in_order true (Some x.key) rows ≡ true
order-after x [] sorted = refl
order-after x (y ∷ rows) sorted =
    both (may_follow true (Some x.key) y.key) (are_in_order true (Some y.key) rows) (not-above x.key y.key (sorted 0 x (omega arith) (omega arith)))
    (order-after y rows (sorted-rest x (y ∷ rows) sorted))

pub order-sorted : (rows : List Stamped) → AreSorted rows → are_in_order true None rows ≡ true
order-sorted [] sorted = refl
order-sorted (x ∷ rows) sorted = order-after x rows sorted

-- ---- rows by rising key

-- the key beside each row is its own
abbrev pub AreOwn : TableSchema → List Stamped → Type 0
AreOwn s rows = AllByRecursion (λ (x : Stamped). x.key ≡ key_of (primary_of s) x.row) rows

not-greater : (o : Ordering) → not (is_gt o) ≡ true → o ≢ Greater
not-greater Less e = λ is. cc
not-greater Equal e = λ is. cc
not-greater Greater e = cc

not-greater-by : (a b c : Values) → key_cmp a b ≢ Greater → key_cmp b c ≢ Greater → key_cmp a c ≢ Greater
not-greater-by a b c low high =
    elim (key_cmp a b) as (λ o. key_cmp a b ≡ o → key_cmp a c ≢ Greater) [
      | Less ↦ λ first.
          elim (key_cmp b c) as (λ o. key_cmp b c ≡ o → key_cmp a c ≢ Greater) [
            | Less ↦ λ second above. let bad : Less ≡ Greater = sym (key_total.trans a b c first second) ∙ above in cc
            | Equal ↦ λ second above. low (ap (key_cmp a) (key_cmp-IsAntisymmetric b c second) ∙ above)
            | Greater ↦ λ second. absurd (high second)
          ] refl
      | Equal ↦ λ first above. high (ap (λ k. key_cmp k c) (sym (key_cmp-IsAntisymmetric a b first)) ∙ above)
      | Greater ↦ λ first. absurd (low first)
    ] refl

module _ (s : TableSchema) where
  -- no row's key is below this one
  abbrev AreAbove : Values → List HistoryRow → Type 0
  AreAbove k rows = AllByRecursion (λ (r : HistoryRow). key_cmp k (key_of (primary_of s) r.1) ≢ Greater) rows

  above : (k last : Values) (rows : List Stamped) → key_cmp k last ≢ Greater → are_in_order true (Some last) rows ≡ true → AreOwn s rows
      → AreAbove k (map row_of rows)
  above k last [] low order own = tt
  above k last (x ∷ rows) low order own =
      let parts = in_order-first true (Some last) x rows order in
      let next : key_cmp k x.key ≢ Greater = not-greater-by k last x.key low (not-greater (key_cmp last x.key) parts.0) in
      (subst (λ q. key_cmp k q ≢ Greater) own.0 next, above k x.key rows next parts.1 own.1)

  itself : (k : Values) → key_cmp k k ≢ Greater
  itself k e =
      let back : Greater ≡ Less = sym e ∙ key_total.antisymm k k ∙ ap ordering_reverse e in cc

  pub by-key : (before : Option Values) (rows : List Stamped) → are_in_order true before rows ≡ true → AreOwn s rows → AreByKey s (map row_of rows)
  by-key before [] order own = tt
  by-key before (x ∷ rows) order own =
      let parts = in_order-first true before x rows order in
      (subst (λ q. AreAbove q (map row_of rows)) own.0 (above x.key x.key rows (itself x.key) parts.1 own.1), by-key (Some x.key) rows parts.1 own.1)

  pub rise-sorted : (rows : List Stamped) → AreSorted rows → AreOwn s rows → AreByKey s (map row_of rows)
  rise-sorted rows sorted own = by-key None rows (order-sorted rows sorted) own

  -- ---- the rows of a key

  key-rows : (key : Values) (rows : List Stamped) → AreOwn s rows → rows_of (primary_of s) key (map row_of rows) ≡ map row_of (of_key key rows)
  key-rows key [] own = refl
  key-rows key (x ∷ rows) own =
      let rest = key-rows key rows own.1 in
      ap (λ b. cond b (row_of x ∷ rows_of (primary_of s) key (map row_of rows)) (rows_of (primary_of s) key (map row_of rows))) (ap (eq_by_cmp key_cmp key) (sym own.0))
      ∙ ap (λ rs. cond (eq_by_cmp key_cmp key x.key) (row_of x ∷ rs) rs) rest
      ∙ elim (eq_by_cmp key_cmp key x.key) as (λ b. cond b (row_of x ∷ map row_of (of_key key rows)) (map row_of (of_key key rows)) ≡ map row_of (cond b (x ∷ of_key key rows) (of_key key rows))) [
        | true ↦ refl
        | false ↦ refl
      ]

  pub same-sorted : (rows sorted : List Stamped) (key : Values) → IsStableByKey (λ (x : Stamped). x.key) key_cmp rows sorted
      → AreOwn s rows → AreOwn s sorted
      → rows_of (primary_of s) key (map row_of sorted) ≡ rows_of (primary_of s) key (map row_of rows)
  same-sorted rows sorted key stable own own_too =
      key-rows key sorted own_too ∙ ap (map row_of) (of_key-sorted rows sorted key stable) ∙ sym (key-rows key rows own)
