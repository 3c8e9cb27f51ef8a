use Rattle.pm_cli.proofs.Consume.{keeps}
use Rattle.pm_cli.proofs.laws.keeps_consume_law.Goals as goal

pub returns : goal.returns
returns c = keeps c.next_command_law.ensures.same c.same_law.ensures
