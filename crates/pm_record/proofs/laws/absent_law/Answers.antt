use Rattle.pm_record.proofs.Values.{absent}
use Rattle.pm_record.proofs.laws.absent_law.Goals as goal

pub returns : goal.returns
returns c = absent
