use Rattle.std.proofs.Common.{◌≡◌, drop}
use Rattle.pm_record.specs.Record.{all_differ, lent}
use Rattle.pm_record.proofs.index.all_differ.Given as goal

abbrev pub invariant-loop-index : goal.invariant-loop-index
invariant-loop-index l = all_differ (lent (drop l.index l.names)) ≡ all_differ (lent l.names)
