use Rattle.pm_consumers.proofs.NameLemmas.{listed_there}
use Rattle.pm_consumers.proofs.laws.listed_law.Goals as goal

pub returns : goal.returns
returns c = listed_there
