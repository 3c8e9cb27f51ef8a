use Rattle.std.proofs.Common.{◌≡◌, length, map, take}
use Rattle.pm_run_bytes.specs.Direct.{AreCells}
use Rattle.pm_row_slots.specs.Seen.{seen_value}
use Rattle.pm_run_bytes.proofs.judge.see_each.Given as goal

-- the values so far, in the place of as many
abbrev pub invariant-loop-index : goal.invariant-loop-index
invariant-loop-index l = AreCells (take l.index l.fields) (map seen_value (take l.index l.into)) l.bytes l.rest × (length l.into ≡ length l.fields)
