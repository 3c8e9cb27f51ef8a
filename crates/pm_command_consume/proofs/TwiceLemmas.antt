-- Rows that are replayed twice in a row.
use Rattle.std.proofs.Common.{◌≡◌, true, false, cond, List, [], ◌∷◌, ◌++◌, Option, Some, None, refl, sym, ap, ◌∙◌}
use Rattle.std.specs.FinMap.{FinMap, get, get-insert, get-remove, same_map}
use Rattle.std.specs.Ordering.{eq_by_cmp}
use Rattle.std.proofs.lemmas.List.Sums.{fold-append}
use Rattle.pm_schema.specs.declared.schema.TableSchema.{TableSchema}
use Rattle.pm_values.proofs.Lemmas.{key_cmp-IsAntisymmetric}
use Rattle.pm_values.specs.Kind.{retracts}
use Rattle.pm_values.specs.Order.{Values, key_cmp, key_total}
use Rattle.pm_values.specs.declared.kind.Kind.TheVariants.{Delete, Insert, UpdateAfter, UpdateBefore}
use Rattle.pm_model_following.specs.Following.{after_line, replay}
use Rattle.pm_model_history.specs.Merge.{HistoryRow, key_of, rows_of}
use Rattle.pm_model_history.specs.Merged.{primary_of}

-- what a row leaves at its key, and the rows of one
abbrev left : HistoryRow → Option Values
left r = cond (retracts r.0) None (Some r.1)

abbrev latest : Option Values → List HistoryRow → Option Values
latest o [] = o
latest o (r ∷ rows) = latest (left r) rows

line_at : (s : TableSchema) (m : FinMap key_cmp Values) (r : HistoryRow) (q : Values)
    → get (after_line s m r) q ≡ cond (eq_by_cmp key_cmp q (key_of (primary_of s) r.1)) (left r) (get m q)
line_at s m (Insert, row) q = get-insert key_total m (key_of (primary_of s) row) row q
line_at s m (UpdateBefore, row) q = get-remove key_total m (key_of (primary_of s) row) q
line_at s m (UpdateAfter, row) q = get-insert key_total m (key_of (primary_of s) row) row q
line_at s m (Delete, row) q = get-remove key_total m (key_of (primary_of s) row) q

replay_at : (s : TableSchema) (rows : List HistoryRow) (m : FinMap key_cmp Values) (q : Values)
    → get (replay s m rows) q ≡ latest (get m q) (rows_of (primary_of s) q rows)
replay_at s [] m q = refl
replay_at s (r ∷ rows) m q =
    let own = rows_of (primary_of s) q rows in
    replay_at s rows (after_line s m r) q
    ∙ ap (λ o. latest o own) (line_at s m r q)
    ∙ elim (eq_by_cmp key_cmp q (key_of (primary_of s) r.1)) as (λ b. latest (cond b (left r) (get m q)) own ≡ latest (get m q) (cond b (r ∷ own) own)) [
      | true ↦ refl
      | false ↦ refl
    ]

latest_same : (o : Option Values) (rows : List HistoryRow) → latest (latest o rows) rows ≡ latest o rows
latest_same o [] = refl
latest_same o (r ∷ rows) = refl

pub twice : (s : TableSchema) (m : FinMap key_cmp Values) (rows : List HistoryRow) → replay s m (rows ++ rows) ≡ replay s m rows
twice s m rows =
    fold-append (after_line s) m rows rows
    ∙ same_map key_total key_cmp-IsAntisymmetric (replay s (replay s m rows) rows) (replay s m rows)
    (λ q.
    let own = rows_of (primary_of s) q rows in
    replay_at s rows (replay s m rows) q ∙ ap (λ o. latest o own) (replay_at s rows m q) ∙ latest_same (get m q) own ∙ sym (replay_at s rows m q))
