-- What is known of rows, with one more.
use Rattle.std.proofs.Common.{◌≡◌, ℕ, ◌+◌, ◌≤◌, min, max, List, [], ◌∷◌, ◌++◌, Some, sym, ap, ◌∙◌, arith}
use Rattle.std.proofs.lemmas.List.{length-append}
use Rattle.pm_values.specs.declared.record.Stamped.{Stamped}
use Rattle.pm_run.specs.Writing.{greatest_of, least_of}
use Rattle.pm_run_writer.specs.Summary.{IsSummary}
use Rattle.pm_run_writer.specs.declared.summary.RowSummary.{RowSummary}

least_push : (n : ℕ) (rows : List Stamped) (x : Stamped) → least_of n (rows ++ x ∷ []) ≡ min (least_of n rows) x.seq
least_push n [] x = omega arith
least_push n (y ∷ rows) x = omega (arith, least_push n rows x)

greatest_push : (n : ℕ) (rows : List Stamped) (x : Stamped) → greatest_of n (rows ++ x ∷ []) ≡ max (greatest_of n rows) x.seq
greatest_push n [] x = omega arith
greatest_push n (y ∷ rows) x = omega (arith, greatest_push n rows x)

-- the first row
pub summary_first : (rows : List Stamped) (x : Stamped) (before after : RowSummary) → IsSummary rows before → before.count ≡ 0 → after.count ≡ before.count + 1 → after.first ≡ Some x.key
    → after.least ≡ x.seq → after.greatest ≡ x.seq → IsSummary (rows ++ x ∷ []) after
summary_first [] x before after h none count first least greatest = record {
  count = omega arith;
  first = first;
  least = omega arith;
  greatest = omega arith;
}
summary_first (y ∷ rows) x before after h none count first least greatest = let many = h.count in absurd (omega arith)

-- one row more
pub summary_more : (rows : List Stamped) (x : Stamped) (before after : RowSummary) → IsSummary rows before → 1 ≤ before.count → after.count ≡ before.count + 1 → after.first ≡ before.first
    → after.least ≡ min before.least x.seq → after.greatest ≡ max before.greatest x.seq → IsSummary (rows ++ x ∷ []) after
summary_more [] x before after h some count first least greatest = let many = h.count in absurd (omega arith)
summary_more (y ∷ rows) x before after h some count first least greatest = record {
  count = let many = h.count in let longer = length-append (y ∷ rows) (x ∷ []) in omega arith;
  first = first ∙ h.first;
  least = least ∙ ap (λ (n : ℕ). min n x.seq) h.least ∙ sym (least_push y.seq (y ∷ rows) x);
  greatest = greatest ∙ ap (λ (n : ℕ). max n x.seq) h.greatest ∙ sym (greatest_push y.seq (y ∷ rows) x);
}
