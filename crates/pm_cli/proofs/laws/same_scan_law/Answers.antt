use Rattle.pm_cli.proofs.Compact.{same_scan}
use Rattle.pm_cli.proofs.laws.same_scan_law.Goals as goal

pub returns : goal.returns
returns c = same_scan
