use Rattle.std.proofs.Common.{take}
use Rattle.pm_run_writer.specs.Written.{HasInHand, IsWriting}
use Rattle.pm_write.specs.Batch.{numbered}
use Rattle.pm_write.proofs.numbered.write_numbered.Given as goal

-- the rows so far are in the file in hand
abbrev pub invariant-loop-index : goal.invariant-loop-index
invariant-loop-index l = record {
  ready : IsWriting l.writer;
  hand : HasInHand l.schema 18446744073709551615 0 l.fn.names.session (numbered l.first (take l.index l.rows)) l.writer;
}
