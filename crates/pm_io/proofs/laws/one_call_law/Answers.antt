use Rattle.pm_io.proofs.Writing.{one_call}
use Rattle.pm_io.proofs.laws.one_call_law.Goals as goal

pub returns : goal.returns
returns c = one_call
