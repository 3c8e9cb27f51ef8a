use Rattle.std.proofs.Common.{◌≡◌, drop}
use Rattle.std.specs.List.{filter_map}
use Rattle.std.specs.Prelude.{FitsSigned, IfSome}
use Rattle.pm_model_history.specs.ColumnValue.{width_of, summand, sum_value}
use Rattle.pm_reference.proofs.StepLemmas.{summed}
use Rattle.pm_reference.proofs.aggregates.sum_value.Given as goal

-- the sum so far, and what is left
abbrev pub invariant-loop-row : goal.invariant-loop-row
invariant-loop-row l = record {
  sum : summed (width_of l.kind) l.sum (filter_map (summand l.index) (drop l.row-index l.rows)) ≡ sum_value (width_of l.kind) (filter_map (summand l.index) l.rows);
  fits : IfSome l.sum (FitsSigned (width_of l.kind));
}
