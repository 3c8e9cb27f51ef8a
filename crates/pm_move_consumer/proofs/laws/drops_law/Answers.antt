use Rattle.pm_move_consumer.proofs.DropperLemmas.{dropped-alone, dropped-beside}
use Rattle.pm_move_consumer.proofs.laws.drops_law.Goals as goal

pub returns-clause-alone : goal.returns-clause-alone
returns-clause-alone c = dropped-alone c.steps_law.ensures.consumer c.past_law.ensures c.settled_law.ensures.found c.settled_law.ensures.known

pub returns-clause-beside : goal.returns-clause-beside
returns-clause-beside c = dropped-beside c.steps_law.ensures.consumer c.past_law.ensures
