use Rattle.std.proofs.Common.{false}
use Rattle.pm_run.proofs.OrderLemmas.{rising_in_order}
use Rattle.pm_run_writer.proofs.FileLemmas.{file_back}
use Rattle.pm_run_writer.proofs.writer.write_data.Goals as goal

-- what is written has the rows
pub returns-clause-again : goal.returns-clause-again
returns-clause-again c = λ each.
    let s = c.args.schema.now in
    let rows = c.args.rows.now in
    let file = c.in_ok-file.ensures s c.in_ok-writer.ensures.form c.in_ok-writer.ensures.id in
    file_back s (rw c.in_ok-writer.ensures.form at c.in_ok-writer.ensures.differ) false c.whole_file_law.ensures _ _ rows c.requires.some file.writable each
    (rising_in_order rows c.requires.rising) file.bytes
