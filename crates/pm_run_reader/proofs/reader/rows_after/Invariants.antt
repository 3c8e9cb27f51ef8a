use Rattle.std.proofs.Common.{◌-◌, ◌≤◌, length}
use Rattle.pm_run.specs.Rows.{opened_as}
use Rattle.pm_run_reader.proofs.AppendLemmas.{IsRead}
use Rattle.pm_run_reader.proofs.reader.rows_after.Given as goal

-- what was read so far, and what follows it
abbrev pub invariant-loop-last : goal.invariant-loop-last
invariant-loop-last l = record {
  within : l.offset ≤ length l.file.bytes;
  read : IsRead (opened_as l.path l.reader.form l.reader.changes l.file) l.offset l.before l.rows.items l.last;
}

abbrev pub decreases-loop-last : goal.decreases-loop-last
decreases-loop-last l = length l.file.bytes - l.offset
