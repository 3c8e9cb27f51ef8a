use Rattle.std.proofs.Common.{◌≡◌, drop}
use Rattle.pm_run.specs.Writing.{greatest_of}
use Rattle.pm_run_writer.proofs.writer.greatest_of.Given as goal

abbrev pub invariant-loop-row : goal.invariant-loop-row
invariant-loop-row l = greatest_of l.greatest (drop l.row-index l.rows) ≡ greatest_of l.first l.rows
