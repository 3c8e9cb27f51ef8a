use Rattle.pm_options.proofs.StandsLemmas.{options_of-Stands}
use Rattle.pm_options.proofs.laws.read_law.Goals as goal

pub returns : goal.returns
returns c = λ ss o rises is. options_of-Stands ss o rises is
