use Rattle.pm_command_consumers.proofs.AnswerLemmas.{one_answer}
use Rattle.pm_command_consumers.proofs.DropAnswers.{one_drop}
use Rattle.pm_command_consumers.proofs.laws.one_answer_law.Goals as goal

pub returns-clause-lists : goal.returns-clause-lists
returns-clause-lists c = one_answer c.one_answer_law.ensures.one c.one_answer_law.ensures.failed

pub returns-clause-drops : goal.returns-clause-drops
returns-clause-drops c = one_drop c.one_answer_law-2.ensures.drops
