use Rattle.pm_read_log.proofs.LogCauseLemmas.{causes}
use Rattle.pm_read_log.proofs.log_laws.log_causes_law.Goals as goal

pub returns : goal.returns
returns c = causes c.one_reading_law.ensures c.one_reading_law-2.ensures
