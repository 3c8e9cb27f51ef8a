use Rattle.pm_expire.proofs.ChainLemmas.{chain_all}
use Rattle.pm_expire.proofs.laws.chain_law.Goals as goal

pub returns : goal.returns
returns c = chain_all
