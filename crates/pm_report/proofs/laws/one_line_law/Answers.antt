use Rattle.pm_report.proofs.OneLine.{one_line}
use Rattle.pm_report.proofs.laws.one_line_law.Goals as goal

pub returns : goal.returns
returns c = one_line
