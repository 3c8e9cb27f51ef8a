-- Rows by key are as many as the rows.
use Rattle.std.proofs.Common.{◌≡◌, ℕ, suc, Bool, true, false, true≢false, cond, List, [], ◌∷◌, length, refl, sym, ap, subst, ◌∙◌}
use Rattle.std.specs.Ordering.{eq_by_cmp}
use Rattle.pm_values.specs.Order.{Values, key_cmp}
use Rattle.pm_engine.proofs.Rising.{tied, ties_itself}
use Rattle.pm_model_history.specs.Merge.{HistoryRow, key_of, rows_of}

module _ (primary : List ℕ) where
  abbrev key_at : HistoryRow → Values
  key_at r = key_of primary r.1

  -- rows of a key, with a row of another before them where the keys are the same
  abbrev rows_with : Values → HistoryRow → List HistoryRow → List HistoryRow
  rows_with key x rows = cond (eq_by_cmp key_cmp key (key_at x)) (x ∷ rows_of primary key rows) (rows_of primary key rows)

  -- rows of which one was taken out: as many without it, and of each key the others in their order
  record IsWithout (x : HistoryRow) (ys zs : List HistoryRow) : Type 0 where
    fewer : length ys ≡ suc (length zs)
    others : (key : Values) → rows_of primary key ys ≡ rows_with key x zs

  first-same : (x y : HistoryRow) (xs ys : List HistoryRow) → x ∷ xs ≡ y ∷ ys → x ≡ y
  first-same x y xs ys e = cc

  rest-same : (x y : HistoryRow) (xs ys : List HistoryRow) → x ∷ xs ≡ y ∷ ys → xs ≡ ys
  rest-same x y xs ys e = cc

  none-some : (x : HistoryRow) (xs : List HistoryRow) → [] ≡ x ∷ xs → ⊥
  none-some x xs e = cc

  other-key : (key : Values) (x y : HistoryRow) → eq_by_cmp key_cmp key (key_at x) ≡ true → eq_by_cmp key_cmp key (key_at y) ≡ true
      → eq_by_cmp key_cmp (key_at x) (key_at y) ≡ true
  other-key key x y of_x of_y =
      subst (λ (k : Values). eq_by_cmp key_cmp (key_at x) k ≡ true) (sym (tied key (key_at x) of_x) ∙ tied key (key_at y) of_y) (ties_itself (key_at x))

  -- the first row of a key can be taken out
  without : (x : HistoryRow) (ys more : List HistoryRow) → rows_of primary (key_at x) ys ≡ x ∷ more → (zs : List HistoryRow) × IsWithout x ys zs
  without x [] more is = absurd (none-some x more is)
  without x (y ∷ ys) more is = at (λ later. without x ys more later) (eq_by_cmp key_cmp (key_at x) (key_at y)) refl is
    where
      passed-by : (key : Values) (zs : List HistoryRow) → eq_by_cmp key_cmp (key_at x) (key_at y) ≡ false → (a b : Bool)
          → eq_by_cmp key_cmp key (key_at x) ≡ a → eq_by_cmp key_cmp key (key_at y) ≡ b
          → cond b (y ∷ cond a (x ∷ rows_of primary key zs) (rows_of primary key zs)) (cond a (x ∷ rows_of primary key zs) (rows_of primary key zs))
          ≡ cond a (x ∷ cond b (y ∷ rows_of primary key zs) (rows_of primary key zs)) (cond b (y ∷ rows_of primary key zs) (rows_of primary key zs))
      passed-by key zs apart true true of_x of_y = absurd (true≢false (sym (other-key key x y of_x of_y) ∙ apart))
      passed-by key zs apart true false of_x of_y = refl
      passed-by key zs apart false true of_x of_y = refl
      passed-by key zs apart false false of_x of_y = refl

      at : (rows_of primary (key_at x) ys ≡ x ∷ more → (zs : List HistoryRow) × IsWithout x ys zs) → (t : Bool) → eq_by_cmp key_cmp (key_at x) (key_at y) ≡ t
          → cond t (y ∷ rows_of primary (key_at x) ys) (rows_of primary (key_at x) ys) ≡ x ∷ more → (zs : List HistoryRow) × IsWithout x (y ∷ ys) zs
      at later true own is =
          let same : y ≡ x = first-same y x (rows_of primary (key_at x) ys) more is in
          (ys, record { fewer = refl; others = λ key. ap (λ (r : HistoryRow). rows_with key r ys) same })
      at later false apart is =
          let found = later is in
          let zs : List HistoryRow = found.0 in (
            y ∷ zs,
            record {
              fewer = ap suc found.1.fewer;
              others = λ key. ap (λ (own : List HistoryRow). cond (eq_by_cmp key_cmp key (key_at y)) (y ∷ own) own) (found.1.others key)
                  ∙ passed-by key zs apart (eq_by_cmp key_cmp key (key_at x)) (eq_by_cmp key_cmp key (key_at y)) refl refl;
            },
          )

  rest-of : (x : HistoryRow) (xs zs : List HistoryRow) (t : Bool) → cond t (x ∷ xs) xs ≡ cond t (x ∷ zs) zs → xs ≡ zs
  rest-of x xs zs true is = rest-same x x xs zs is
  rest-of x xs zs false is = is

  -- rows that have of each key the same rows are as many
  pub as-many : (xs ys : List HistoryRow) → ((key : Values) → rows_of primary key xs ≡ rows_of primary key ys) → length xs ≡ length ys
  as-many [] [] same = refl
  as-many [] (y ∷ ys) same =
      let own : rows_of primary (key_at y) (y ∷ ys) ≡ y ∷ rows_of primary (key_at y) ys =
      ap (λ (t : Bool). cond t (y ∷ rows_of primary (key_at y) ys) (rows_of primary (key_at y) ys)) (ties_itself (key_at y)) in
      absurd (none-some y (rows_of primary (key_at y) ys) (same (key_at y) ∙ own))
  as-many (x ∷ xs) ys same =
      let own : rows_of primary (key_at x) (x ∷ xs) ≡ x ∷ rows_of primary (key_at x) xs =
      ap (λ (t : Bool). cond t (x ∷ rows_of primary (key_at x) xs) (rows_of primary (key_at x) xs)) (ties_itself (key_at x)) in
      let found = without x ys (rows_of primary (key_at x) xs) (sym (same (key_at x)) ∙ own) in
      let zs : List HistoryRow = found.0 in
      let rest = as-many xs zs
      (λ key. rest-of x (rows_of primary key xs) (rows_of primary key zs) (eq_by_cmp key_cmp key (key_at x)) (same key ∙ found.1.others key)) in
      ap suc rest ∙ sym found.1.fewer
