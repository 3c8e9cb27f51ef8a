use Rattle.pm_consumers.proofs.OneLemmas.{failed_answer, one_answer}
use Rattle.pm_consumers.proofs.laws.one_answer_law.Goals as goal

pub returns : goal.returns
returns c = record { one = one_answer; failed = failed_answer }
