use Rattle.pm_cli.proofs.Drop.{keeps}
use Rattle.pm_cli.proofs.laws.keeps_drop_law.Goals as goal

pub returns : goal.returns
returns c = keeps c.kept_law.ensures
