use Rattle.pm_record.proofs.Nulls.{present_typed}
use Rattle.pm_record.proofs.laws.present_law.Goals as goal

pub returns : goal.returns
returns c = present_typed
