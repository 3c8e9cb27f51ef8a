use Rattle.pm_schema.proofs.Facts.{fault}
use Rattle.pm_schema.proofs.laws.fault_law.Goals as goal

pub returns : goal.returns
returns c = fault
