use Rattle.std.proofs.Common.{map, take}
use Rattle.pm_run_bytes.specs.Direct.{AreCells}
use Rattle.pm_row_slots.specs.Seen.{seen_value}
use Rattle.pm_run_bytes.proofs.judge.see_first.Given as goal

-- the values so far
abbrev pub invariant-loop-field : goal.invariant-loop-field
invariant-loop-field l = AreCells (take l.field-index l.fields) (map seen_value l.into.items) l.bytes l.rest
