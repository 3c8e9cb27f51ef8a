use Rattle.pm_move_consumer.proofs.MoverLemmas.{moved-alone, moved-beside}
use Rattle.pm_move_consumer.proofs.laws.moves_law.Goals as goal

pub returns-clause-alone : goal.returns-clause-alone
returns-clause-alone c = moved-alone
    (record { steps = c.steps_law.ensures.consumer; again = c.consumer_law.ensures.again; next = c.consumer_law.ensures.next }) c.past_law.ensures
    c.settled_law.ensures.found c.settled_law.ensures.known

pub returns-clause-beside : goal.returns-clause-beside
returns-clause-beside c = moved-beside
    (record { steps = c.steps_law.ensures.consumer; again = c.consumer_law.ensures.again; next = c.consumer_law.ensures.next }) c.past_law.ensures
    c.kept_law.ensures.change
