use Rattle.std.proofs.Common.{◌≡◌, ◌+◌, drop}
use Rattle.std.specs.List.{position_or_len}
use Rattle.std.specs.Str.{bytes_eq}
use Rattle.pm_model_history.proofs.columns.index_of.Given as goal

-- no column so far has the name
abbrev pub invariant-loop-index : goal.invariant-loop-index
invariant-loop-index l = l.index + position_or_len (λ c. bytes_eq c.name l.name) (drop l.index l.columns) ≡ position_or_len (λ c. bytes_eq c.name l.name) l.columns
