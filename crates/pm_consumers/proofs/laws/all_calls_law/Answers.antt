use Rattle.pm_consumers.proofs.AllCallsLemmas.{listed_history}
use Rattle.pm_consumers.proofs.laws.all_calls_law.Goals as goal

pub returns : goal.returns
returns c = listed_history
