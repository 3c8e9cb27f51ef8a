use Rattle.std.proofs.Common.{◌≡◌, ◌++◌, take}
use Rattle.pm_merged_log.specs.Merged.{lines_of}
use Rattle.pm_merged_log.proofs.lines.push_packed.Given as goal

abbrev pub invariant-loop-index : goal.invariant-loop-index
invariant-loop-index l = l.text.items ≡ l.fn.text.items ++ lines_of (take l.index l.rows)
