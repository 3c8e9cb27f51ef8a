use Rattle.std.proofs.Common.{◌≡◌, map, take}
use Rattle.pm_model_history.specs.Merge.{value_at}
use Rattle.pm_model_history.proofs.merge.key_of.Given as goal

-- the values at the indexes so far
abbrev pub invariant-loop-index : goal.invariant-loop-index
invariant-loop-index l = l.key.items ≡ map (λ index. value_at l.row index) (take l.index-index l.primary)
