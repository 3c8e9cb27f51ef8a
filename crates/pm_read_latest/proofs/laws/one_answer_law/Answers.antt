use Rattle.pm_read_latest.proofs.OneLemmas.{failed_latest, one_answer}
use Rattle.pm_read_latest.proofs.laws.one_answer_law.Goals as goal

pub returns : goal.returns
returns c = record { one = one_answer; failed = failed_latest }
