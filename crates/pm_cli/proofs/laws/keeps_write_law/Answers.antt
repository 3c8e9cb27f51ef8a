use Rattle.pm_cli.proofs.Write.{keeps}
use Rattle.pm_cli.proofs.laws.keeps_write_law.Goals as goal

pub returns : goal.returns
returns c = keeps
