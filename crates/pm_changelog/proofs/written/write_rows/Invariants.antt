use Rattle.std.proofs.Common.{take}
use Rattle.pm_run_writer.specs.Written.{HasInHand, IsWriting}
use Rattle.pm_changelog.specs.GroupLog.{stamped_from, without_numbers}
use Rattle.pm_changelog.proofs.written.write_rows.Given as goal

-- the rows so far are in the file in hand
abbrev pub invariant-loop-index : goal.invariant-loop-index
invariant-loop-index l = record {
  ready : IsWriting l.writer;
  hand : HasInHand l.schema 18446744073709551615 0 l.fn.names.session (stamped_from 0 (without_numbers (take l.index l.rows))) l.writer;
}
