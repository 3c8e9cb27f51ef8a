use Rattle.pm_expire.proofs.GivenBackLemmas.{given_back}
use Rattle.pm_expire.proofs.laws.given_back_law.Goals as goal

pub returns : goal.returns
returns c f s entries first end paths g folder is_first some high are without = given_back f s first end is_first some paths are g without high
