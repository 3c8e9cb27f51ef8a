use Rattle.pm_register.proofs.AmongLemmas.{among}
use Rattle.pm_register.proofs.laws.among_law.Goals as goal

pub returns : goal.returns
returns c =
    among (record {
      reads = c.consumer_law.ensures.again;
      stays = c.past_law.ensures;
      steps = c.steps_law.ensures.consumer;
    }) c.consumers_law.ensures.moved c.follower_law.ensures.kept
