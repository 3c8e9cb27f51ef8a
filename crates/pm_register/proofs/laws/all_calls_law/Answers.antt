use Rattle.pm_register.proofs.AllCallsLemmas.{all_calls}
use Rattle.pm_register.proofs.laws.all_calls_law.Goals as goal

pub returns : goal.returns
returns c =
    all_calls (record {
      reads = c.consumer_law.ensures.again;
      stays = c.past_law.ensures;
      steps = c.steps_law.ensures.consumer;
    }) (record { found = c.settled_law.ensures.found; known = c.settled_law.ensures.known })
