use Rattle.pm_command_consume.proofs.TwiceLemmas.{twice}
use Rattle.pm_command_consume.proofs.laws.twice_law.Goals as goal

pub returns : goal.returns
returns c = twice
