use Rattle.pm_snapshot.proofs.TextLemmas.{consumer_in-consumer_text}
use Rattle.pm_snapshot.proofs.laws.consumer_law.Goals as goal

pub returns-clause-again : goal.returns-clause-again
returns-clause-again c = consumer_in-consumer_text
