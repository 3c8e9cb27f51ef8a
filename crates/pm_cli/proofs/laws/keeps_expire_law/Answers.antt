use Rattle.pm_cli.proofs.Expire.{keeps}
use Rattle.pm_cli.proofs.laws.keeps_expire_law.Goals as goal

pub returns : goal.returns
returns c = keeps c.image_law.ensures
