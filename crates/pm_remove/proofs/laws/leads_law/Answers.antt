use Rattle.pm_remove.proofs.Facts.{call_clears}
use Rattle.pm_remove.proofs.laws.leads_law.Goals as goal

pub returns : goal.returns
returns c = call_clears
