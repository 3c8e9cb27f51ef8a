use Rattle.pm_cli.proofs.Consumers.{keeps}
use Rattle.pm_cli.proofs.laws.keeps_consumers_law.Goals as goal

pub returns : goal.returns
returns c = keeps c.next_command_law.ensures.same
