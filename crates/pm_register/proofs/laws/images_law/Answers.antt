use Rattle.pm_register.proofs.Facts.{images}
use Rattle.pm_register.proofs.laws.images_law.Goals as goal

pub returns : goal.returns
returns c =
    images (record {
      reads = c.consumer_law.ensures.again;
      stays = c.past_law.ensures;
      steps = c.steps_law.ensures.consumer;
    })
