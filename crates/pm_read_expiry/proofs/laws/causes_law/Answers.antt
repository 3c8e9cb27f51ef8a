use Rattle.pm_read_expiry.proofs.CauseLemmas.{causes}
use Rattle.pm_read_expiry.proofs.laws.causes_law.Goals as goal

pub returns : goal.returns
returns c = causes
