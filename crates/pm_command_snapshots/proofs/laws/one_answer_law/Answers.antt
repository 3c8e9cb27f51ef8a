use Rattle.pm_command_snapshots.proofs.AnswerLemmas.{one_answer}
use Rattle.pm_command_snapshots.proofs.laws.one_answer_law.Goals as goal

pub returns : goal.returns
returns c = one_answer
