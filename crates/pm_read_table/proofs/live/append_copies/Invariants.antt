use Rattle.std.proofs.Common.{◌≡◌, ◌++◌, drop}
use Rattle.pm_read_table.proofs.live.append_copies.Given as goal

abbrev pub invariant-loop-entry : goal.invariant-loop-entry
invariant-loop-entry l = l.kept.items ++ drop l.entry-index l.entries ≡ l.fn.kept.items ++ l.entries
