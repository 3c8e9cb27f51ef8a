use Rattle.std.proofs.Common.{◌≡◌, map, take}
use Rattle.pm_model_history.specs.Merge.{value_at}
use Rattle.pm_row_slots.specs.Seen.{seen_value}
use Rattle.pm_run_bytes.proofs.judge.see_key.Given as goal

-- the values at the indexes so far
abbrev pub invariant-loop-index : goal.invariant-loop-index
invariant-loop-index l = map seen_value l.into.items ≡ map (λ index. value_at (map seen_value l.row) index) (take l.index-index l.primary)
