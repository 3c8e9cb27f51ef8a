use Rattle.std.proofs.Common.{◌≡◌, take}
use Rattle.pm_run_bytes.proofs.alike.are_same_columns.Given as goal

-- those so far are the same
abbrev pub invariant-loop-index : goal.invariant-loop-index
invariant-loop-index l = take l.index l.fields ≡ take l.index l.others
