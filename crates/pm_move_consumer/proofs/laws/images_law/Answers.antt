use Rattle.pm_move_consumer.proofs.DropperFacts as drops
use Rattle.pm_move_consumer.proofs.MoverFacts as moves
use Rattle.pm_move_consumer.proofs.laws.images_law.Goals as goal

pub returns-clause-moves : goal.returns-clause-moves
returns-clause-moves c = moves.images
    (record { steps = c.steps_law.ensures.consumer; again = c.consumer_law.ensures.again; next = c.consumer_law.ensures.next }) c.past_law.ensures

pub returns-clause-drops : goal.returns-clause-drops
returns-clause-drops c = drops.images c.steps_law.ensures.consumer c.past_law.ensures
