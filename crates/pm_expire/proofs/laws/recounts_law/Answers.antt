use Rattle.pm_expire.proofs.TraceLemmas.{recounts}
use Rattle.pm_expire.proofs.laws.recounts_law.Goals as goal

pub returns : goal.returns
returns c = recounts (c.joined_law.ensures.left, c.joined_law.ensures.order)
