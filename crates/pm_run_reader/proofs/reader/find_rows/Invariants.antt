use Rattle.std.proofs.Common.{◌-◌, ◌≤◌, List, Option, length}
use Rattle.pm_values.specs.declared.record.Stamped.{Stamped}
use Rattle.pm_values.specs.declared.refusal.Refusal.{Refusal}
use Rattle.pm_run.specs.Rows.{Follow, opened_as}
use Rattle.pm_run_reader.proofs.reader.find_rows.Given as goal

-- what follows from the offset on follows from the first one on
abbrev pub invariant-loop-read : goal.invariant-loop-read
invariant-loop-read l = record {
  within : l.offset ≤ length l.file.bytes;
  follow : (rows : List Stamped) (end : Option Refusal) → Follow (opened_as l.path l.reader.form l.reader.changes l.file) l.offset l.before rows end
      → Follow (opened_as l.path l.reader.form l.reader.changes l.file) l.fn.offset l.before rows end;
}

abbrev pub decreases-loop-read : goal.decreases-loop-read
decreases-loop-read l = length l.file.bytes - l.offset
