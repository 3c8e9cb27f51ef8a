use Rattle.pm_read_log.proofs.LogFacts.{knows_still}
use Rattle.pm_read_log.proofs.log_laws.log_known_law.Goals as goal

pub returns : goal.returns
returns c = knows_still
