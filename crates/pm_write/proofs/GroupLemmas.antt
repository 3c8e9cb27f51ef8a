-- The groups of a batch: what each has of the rows that were taken, and what is kept of it.
use Rattle.std.proofs.Common.{◌≡◌, ℕ, ◌+◌, ◌≤◌, List, [], ◌∷◌, ◌++◌, map, filter, length, All, Bool, true, false, cond, Option, Some, None, IfSome, refl, sym, ap, subst, ◌∙◌, arith}
use Rattle.std.specs.BTreeMap.{is_at}
use Rattle.std.specs.List.{AllByRecursion, AllZip}
use Rattle.std.specs.List.Sorted.{IsStrictlySortedBy}
use Rattle.std.specs.Map.{keys_of, lookup}
use Rattle.std.specs.Ordering.{eq_by_cmp, is_eq, ordering_reverse}
use Rattle.std.specs.declared.cmp.Ordering.TheVariants.{Less, Equal, Greater}
use Rattle.std.specs.Cmp.{tied_itself}
use Rattle.pm_values.specs.GroupOrder.{group_cmp, group_total}
use Rattle.pm_values.specs.declared.group.Group.{Group}
use Rattle.pm_values.specs.declared.record.Stamped.{Stamped}
use Rattle.pm_schema.specs.declared.schema.TableSchema.{TableSchema}
use Rattle.pm_model_history.specs.Merge.{HistoryRow}
use Rattle.pm_model_following.specs.Groups.{group_of, rows_in}
use Rattle.pm_group_rows.specs.Cut.{cut_of, lying_in, renumbered, some_rows}
use Rattle.pm_engine.specs.Covers.{Run, row_of}
use Rattle.pm_run.specs.Writing.{CountFrom}
use Rattle.pm_write.specs.Batch.{AreRowsOf, GroupRows, Groups, HoldsRows, IsBatchOf, held_of}
use Rattle.pm_write.specs.Held.{IsHeldOf, IsOwn, all_groups}
use Rattle.pm_write.specs.Taken.{IsTakenRow}
use Rattle.pm_write.specs.declared.held.HeldRows.{HeldRows}
use Rattle.pm_write.proofs.ListLemmas.{both_of, from_map}

pub group_ties : (g : Group) → is_eq (group_cmp g g) ≡ true
group_ties g = ap is_eq (tied_itself group_total g)

-- two groups tie in either order
pub tie-back : (a b : Group) → is_eq (group_cmp a b) ≡ is_eq (group_cmp b a)
tie-back a b =
    ap is_eq (group_total.antisymm a b)
    ∙ elim (group_cmp b a) as (λ o. is_eq (ordering_reverse o) ≡ is_eq o) [ Less ↦ refl | Equal ↦ refl | Greater ↦ refl ]

-- what a group with some rows holds
pub holds_some : (s : TableSchema) (rows : List HistoryRow) (x : GroupRows) → 1 ≤ length rows → AreRowsOf s rows x → HoldsRows s rows (Some x)
holds_some s [] x some are = absurd (omega arith)
holds_some s (row ∷ rows) x some are = are

ordered-none : IsStrictlySortedBy group_cmp []
unfolding IsStrictlySortedBy
ordered-none = tt

-- no rows have the batch without groups
pub no_batch : (s : TableSchema) → IsBatchOf s [] []
no_batch s = record { ordered = ordered-none; held = λ g. refl }

-- each entry is found at its own group
pub each_found : {X : Type 0} (es : List (Group × X)) → IsStrictlySortedBy group_cmp (keys_of es) → AllByRecursion (λ (e : Group × X). lookup (is_at (group_cmp e.0)) es ≡ Some e.1) es
unfolding IsStrictlySortedBy
each_found [] ordered = tt
each_found {X} (e ∷ es) ordered = (
  ap (λ (b : Bool). cond b (Some e.1) (lookup (is_at (group_cmp e.0)) es)) (group_ties e.0),
  both_of (λ (f : Group × X). group_cmp e.0 f.0 ≡ Less) (λ (f : Group × X). lookup (is_at (group_cmp f.0)) es ≡ Some f.1) (λ (f : Group × X). lookup (is_at (group_cmp f.0)) (e ∷ es) ≡ Some f.1)
      (λ f less found. ap (λ (b : Bool). cond b (Some e.1) (lookup (is_at (group_cmp f.0)) es)) (tie-back f.0 e.0 ∙ ap is_eq less) ∙ found)
      es (from_map (λ (f : Group × X). f.0) (λ (g : Group). group_cmp e.0 g ≡ Less) es ordered.0) (each_found es ordered.1),
)

-- so what holds wherever something is found holds of each entry
pub each_of : {X : Type 0} (P : X → Type 0) (es all : List (Group × X)) → ((g : Group) → IfSome (lookup (is_at (group_cmp g)) all) P)
    → AllByRecursion (λ (e : Group × X). lookup (is_at (group_cmp e.0)) all ≡ Some e.1) es → AllByRecursion (λ (e : Group × X). P e.1) es
each_of P [] all holds found = tt
each_of P (e ∷ es) all holds found = (subst (λ o. IfSome o P) found.0 (holds e.0), each_of P es all holds found.1)

-- one more on either side
pub zip-push : {A B : Type 0} (R : A → B → Type 0) (xs : List A) (ys : List B) (x : A) (y : B) → AllZip R xs ys → R x y → AllZip R (xs ++ x ∷ []) (ys ++ y ∷ [])
zip-push R [] [] x y all is = (is, tt)
zip-push R [] (z ∷ ys) x y all is = absurd all
zip-push R (z ∷ xs) [] x y all is = absurd all
zip-push R (z ∷ xs) (w ∷ ys) x y all is = (all.0, zip-push R xs ys x y all.1 is)

-- ---- rows with other numbers

-- they are the same rows
rows-renumbered : (n : ℕ) (rows : Run) → map row_of (renumbered n rows) ≡ map row_of rows
rows-renumbered n [] = refl
rows-renumbered n (x ∷ rows) = ap (λ (rs : List HistoryRow). row_of x ∷ rs) (rows-renumbered (n + 1) rows)

taken-renumbered : (s : TableSchema) (n : ℕ) (rows : Run) → AllByRecursion (IsTakenRow s) rows → AllByRecursion (IsTakenRow s) (renumbered n rows)
taken-renumbered s n [] taken = tt
taken-renumbered s n (x ∷ rows) taken = (
  record { keyed = record { fits = taken.0.keyed.fits; own = taken.0.keyed.own }; taken = taken.0.taken },
  taken-renumbered s (n + 1) rows taken.1,
)

counts-renumbered : (n : ℕ) (rows : Run) → CountFrom n (renumbered n rows)
counts-renumbered n [] = tt
counts-renumbered n (x ∷ rows) = (refl, counts-renumbered (n + 1) rows)

-- rows that count already stay as they are
pub already : (n : ℕ) (rows : Run) → CountFrom n rows → renumbered n rows ≡ rows
already n [] counts = refl
already n (x ∷ rows) counts =
    let first : record x { seq = n } ≡ x = λ i. record x { seq = sym counts.0 i } in
    ap (λ (y : Stamped). y ∷ renumbered (n + 1) rows) first ∙ ap (λ (ys : Run). x ∷ ys) (already (n + 1) rows counts.1)

-- ---- the rows of a group

taken-lying : (s : TableSchema) (g : Group) (rows : Run) → AllByRecursion (IsTakenRow s) rows → AllByRecursion (IsTakenRow s) (lying_in s g rows)
taken-lying s g [] taken = tt
taken-lying s g (x ∷ rows) taken =
    let rest = taken-lying s g rows taken.1 in
    elim (eq_by_cmp group_cmp (group_of s x.row) g) as (λ b. AllByRecursion (IsTakenRow s) (cond b (x ∷ lying_in s g rows) (lying_in s g rows))) [ true ↦ (taken.0, rest) | false ↦ rest ]

rows-lying : (s : TableSchema) (g : Group) (rows : Run) → map row_of (lying_in s g rows) ≡ rows_in s g (map row_of rows)
rows-lying s g [] = refl
rows-lying s g (x ∷ rows) =
    elim (eq_by_cmp group_cmp (group_of s x.row) g) as (λ b. map row_of (cond b (x ∷ lying_in s g rows) (lying_in s g rows)) ≡ cond b (row_of x ∷ map row_of (lying_in s g rows)) (map row_of (lying_in s g rows))) [ true ↦ refl | false ↦ refl ]
    ∙ ap (λ (rs : List HistoryRow). cond (eq_by_cmp group_cmp (group_of s x.row) g) (row_of x ∷ rs) rs) (rows-lying s g rows)

some-own : (rows own : Run) → some_rows rows ≡ Some own → (rows ≡ own) × (1 ≤ length own)
some-own [] own is = cc
some-own (x ∷ rows) own is = let same : x ∷ rows ≡ own = cc in (same, subst (λ (xs : Run). 1 ≤ length xs) same (omega arith))

none-own : (rows : Run) → some_rows rows ≡ None → rows ≡ []
none-own [] is = refl
none-own (x ∷ rows) is = cc

module _ (s : TableSchema) (rows : Run) (taken : AllByRecursion (IsTakenRow s) rows) where
  -- what a group has of the rows that were taken
  own-of : (g : Group) (own : Run) → cut_of s g rows ≡ Some own → IsOwn s own
  own-of g own is =
      let parts = some-own (renumbered 0 (lying_in s g rows)) own is in
      record {
        some = parts.1;
        taken = subst (AllByRecursion (IsTakenRow s)) parts.0 (taken-renumbered s 0 (lying_in s g rows) (taken-lying s g rows taken));
        numbers = subst (CountFrom 0) parts.0 (counts-renumbered 0 (lying_in s g rows));
      }

  pub if-own : (g : Group) (found : Option Run) → found ≡ cut_of s g rows → IfSome found (IsOwn s)
  if-own g None is = tt
  if-own g (Some own) is = own-of g own (sym is)

-- ---- what is kept of the groups

-- what is found of a group's rows, and of what is kept of them
abbrev AreFoundOf : TableSchema → Option Run → Option GroupRows → Type 0
AreFoundOf s None None = Unit {0}
AreFoundOf s (Some own) (Some x) = AreRowsOf s (map row_of own) x
AreFoundOf s own held = ⊥

found-of : (s : TableSchema) (g : Group) (es : List (Group × Run)) (held : List HeldRows) → AllZip (IsHeldOf s) es held → AreFoundOf s (lookup (is_at (group_cmp g)) es) (held_of g (all_groups held))
found-of s g [] [] each = tt
found-of s g [] (h ∷ held) each = absurd each
found-of s g (e ∷ es) [] each = absurd each
found-of s g (e ∷ es) (h ∷ held) each = by (found-of s g es held each.1) (is_at (group_cmp g) e.0) (is_at (group_cmp g) h.group) (ap (is_at (group_cmp g)) each.0.group)
  where
    by : AreFoundOf s (lookup (is_at (group_cmp g)) es) (held_of g (all_groups held)) → (t u : Bool) → u ≡ t
        → AreFoundOf s (cond t (Some e.1) (lookup (is_at (group_cmp g)) es)) (cond u (Some (record { count = h.count; run = h.run; log = h.log })) (held_of g (all_groups held)))
    by rest true true same = each.0.rows
    by rest false false same = rest
    by rest true false same = cc
    by rest false true same = cc

keys-held : (s : TableSchema) (es : List (Group × Run)) (held : List HeldRows) → AllZip (IsHeldOf s) es held → keys_of (all_groups held) ≡ keys_of es
keys-held s [] [] each = refl
keys-held s [] (h ∷ held) each = absurd each
keys-held s (e ∷ es) [] each = absurd each
keys-held s (e ∷ es) (h ∷ held) each = ap (λ (g : Group). g ∷ keys_of (all_groups held)) each.0.group ∙ ap (λ (gs : List Group). e.0 ∷ gs) (keys-held s es held each.1)

pub ordered-held : (s : TableSchema) (es : List (Group × Run)) (held : List HeldRows) → AllZip (IsHeldOf s) es held → IsStrictlySortedBy group_cmp (keys_of es) → IsStrictlySortedBy group_cmp (keys_of (all_groups held))
ordered-held s es held each ordered = subst (IsStrictlySortedBy group_cmp) (sym (keys-held s es held each)) ordered

some-held : (s : TableSchema) (rows : List HistoryRow) (own : Run) (x : Option GroupRows) → map row_of own ≡ rows → 1 ≤ length own → AreFoundOf s (Some own) x → HoldsRows s rows x
some-held s [] [] x same some found = absurd (omega arith)
some-held s [] (y ∷ own) x same some found = cc
some-held s (row ∷ rows) own None same some found = absurd found
some-held s (row ∷ rows) own (Some x) same some found = subst (λ (rs : List HistoryRow). AreRowsOf s rs x) same found

none-held : (s : TableSchema) (rows : List HistoryRow) (x : Option GroupRows) → rows ≡ [] → AreFoundOf s None x → HoldsRows s rows x
none-held s [] None same found = refl
none-held s [] (Some x) same found = absurd found
none-held s (row ∷ rows) x same found = cc

-- the groups of the rows that were taken, kept, are their batch
pub batch-of : (s : TableSchema) (rows : Run) (es : List (Group × Run)) (held : List HeldRows) → ((g : Group) → lookup (is_at (group_cmp g)) es ≡ cut_of s g rows)
    → AllZip (IsHeldOf s) es held → IsStrictlySortedBy group_cmp (keys_of es) → IsBatchOf s (map row_of rows) (all_groups held)
batch-of s rows es held cut each ordered = record {
  ordered = ordered-held s es held each ordered;
  held = λ g. by g (cut_of s g rows) refl (subst (λ (o : Option Run). AreFoundOf s o (held_of g (all_groups held))) (cut g) (found-of s g es held each));
}
  where
    by : (g : Group) (o : Option Run) → cut_of s g rows ≡ o → AreFoundOf s o (held_of g (all_groups held)) → HoldsRows s (rows_in s g (map row_of rows)) (held_of g (all_groups held))
    by g None is found =
        let none : rows_in s g (map row_of rows) ≡ [] =
        sym (rows-lying s g rows) ∙ sym (rows-renumbered 0 (lying_in s g rows)) ∙ ap (map row_of) (none-own (renumbered 0 (lying_in s g rows)) is) in
        none-held s (rows_in s g (map row_of rows)) (held_of g (all_groups held)) none found
    by g (Some own) is found =
        let parts = some-own (renumbered 0 (lying_in s g rows)) own is in
        let same : map row_of own ≡ rows_in s g (map row_of rows) =
        ap (map row_of) (sym parts.0) ∙ rows-renumbered 0 (lying_in s g rows) ∙ rows-lying s g rows in
        some-held s (rows_in s g (map row_of rows)) own (held_of g (all_groups held)) same parts.1 found
