use Rattle.pm_command_expire.proofs.OneLemmas.{one_answer}
use Rattle.pm_command_expire.proofs.laws.one_answer_law.Goals as goal

pub returns : goal.returns
returns c = one_answer c.one_answer_law.ensures.one
