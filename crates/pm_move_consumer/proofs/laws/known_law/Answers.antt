use Rattle.pm_move_consumer.proofs.DropperFacts as drops
use Rattle.pm_move_consumer.proofs.MoverFacts as moves
use Rattle.pm_move_consumer.proofs.laws.known_law.Goals as goal

pub returns-clause-moves : goal.returns-clause-moves
returns-clause-moves c = moves.knows_still c.kept_law.ensures.change

pub returns-clause-drops : goal.returns-clause-drops
returns-clause-drops c = drops.knows_still
