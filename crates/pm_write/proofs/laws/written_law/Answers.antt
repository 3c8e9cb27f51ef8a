use Rattle.pm_write.proofs.LawLemmas.{all_written, written}
use Rattle.pm_write.proofs.LogLemmas.{logs-written}
use Rattle.pm_write.proofs.laws.written_law.Goals as goal

pub returns : goal.returns
returns c = record {
  one = written;
  all = all_written;
  logs = λ s rows batch next names files is new. logs-written s rows batch is c.group_log_law.ensures.holds next names files new;
}
