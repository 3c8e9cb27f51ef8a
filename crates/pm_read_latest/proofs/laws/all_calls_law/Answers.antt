use Rattle.pm_read_latest.proofs.AllCallsLemmas.{found_history}
use Rattle.pm_read_latest.proofs.laws.all_calls_law.Goals as goal

pub returns : goal.returns
returns c = found_history
