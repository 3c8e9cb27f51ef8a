use Rattle.pm_register.proofs.OneLemmas.{one_answer}
use Rattle.pm_register.proofs.laws.one_answer_law.Goals as goal

pub returns : goal.returns
returns c = one_answer
