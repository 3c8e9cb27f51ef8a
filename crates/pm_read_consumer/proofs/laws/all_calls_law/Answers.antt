use Rattle.pm_read_consumer.proofs.AllCallsLemmas.{found_history}
use Rattle.pm_read_consumer.proofs.laws.all_calls_law.Goals as goal

pub returns : goal.returns
returns c = found_history
