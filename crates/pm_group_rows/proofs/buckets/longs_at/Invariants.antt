use Rattle.std.proofs.Common.{◌≡◌, map, take}
use Rattle.pm_values.specs.declared.record.Stamped.{Stamped}
use Rattle.pm_values.specs.declared.value.Value.TheVariants.{Int as Whole}
use Rattle.pm_model_history.specs.Merge.{value_at}
use Rattle.pm_group_rows.proofs.buckets.longs_at.Given as goal

-- the numbers of the rows so far
abbrev pub invariant-loop-at : goal.invariant-loop-at
invariant-loop-at l = map (λ (x : Stamped). value_at x.row l.index) (take l.at l.rows) ≡ map Whole l.longs.items
