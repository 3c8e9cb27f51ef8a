use Rattle.std.proofs.Common.{◌≡◌, drop}
use Rattle.pm_run.specs.Writing.{least_of}
use Rattle.pm_run_writer.proofs.writer.least_of.Given as goal

abbrev pub invariant-loop-row : goal.invariant-loop-row
invariant-loop-row l = least_of l.least (drop l.row-index l.rows) ≡ least_of l.first l.rows
