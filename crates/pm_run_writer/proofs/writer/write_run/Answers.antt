use Rattle.pm_run_writer.proofs.FileLemmas.{files_back}
use Rattle.pm_run.proofs.OrderLemmas.{rising_in_order}
use Rattle.pm_run_writer.proofs.writer.write_run.Goals as goal

-- what is written is a run of the rows
pub returns-clause-again : goal.returns-clause-again
returns-clause-again c = λ each. record {
  have = files_back c.args.schema.now (rw c.in_ok-writer.ensures.form at c.in_ok-writer.ensures.differ) c.whole_file_law.ensures c.args.limit c.args.level c.requires.limit
      c.in_ok-files.files.items c.args.names.now c.args.rows.now
      (c.in_ok-files.ensures.files c.args.schema.now c.in_ok-writer.ensures.form c.in_ok-writer.ensures.id) each (rising_in_order c.args.rows.now c.requires.rising);
  rising = c.requires.rising;
}
