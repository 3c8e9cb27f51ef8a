use Rattle.pm_run.proofs.OrderLemmas.{rising_in_order}
use Rattle.pm_run_writer.proofs.FileLemmas.{files_back}
use Rattle.pm_run_writer.proofs.laws.files_law.Goals as goal

pub returns : goal.returns
returns c = λ s limit level names rows files differ positive are each rising. record {
  have = files_back s differ c.whole_file_law.ensures limit level positive files names rows are each (rising_in_order rows rising);
  rising = rising;
}
