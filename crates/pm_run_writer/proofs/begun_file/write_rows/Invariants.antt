use Rattle.std.proofs.Common.{◌≤◌, take}
use Rattle.pm_run_writer.specs.Begun.{HasBegun}
use Rattle.pm_run_writer.proofs.begun_file.write_rows.Given as goal

abbrev pub invariant-loop-row : goal.invariant-loop-row
invariant-loop-row l = record {
  begun : HasBegun l.form l.fn.marker (take l.row-index l.rows) l.file;
  within : l.file.count ≤ 1024;
}
