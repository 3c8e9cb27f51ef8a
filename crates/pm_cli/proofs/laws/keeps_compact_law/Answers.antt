use Rattle.pm_cli.proofs.Compact.{keeps}
use Rattle.pm_cli.proofs.laws.keeps_compact_law.Goals as goal

pub returns : goal.returns
returns c = keeps
