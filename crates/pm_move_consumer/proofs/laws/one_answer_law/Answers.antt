use Rattle.pm_move_consumer.proofs.OneLemmas.{one_drop, one_move}
use Rattle.pm_move_consumer.proofs.laws.one_answer_law.Goals as goal

pub returns-clause-moves : goal.returns-clause-moves
returns-clause-moves c = one_move

pub returns-clause-drops : goal.returns-clause-drops
returns-clause-drops c = one_drop
