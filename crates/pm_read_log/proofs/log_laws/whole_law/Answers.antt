use Rattle.pm_read_log.proofs.WholeLemmas.{whole-named}
use Rattle.pm_read_log.proofs.log_laws.whole_law.Goals as goal

pub returns : goal.returns
returns c = whole-named c.one_contents_law.ensures
