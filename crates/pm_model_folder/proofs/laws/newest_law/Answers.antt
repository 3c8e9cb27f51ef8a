use Rattle.pm_model_folder.proofs.OwnFacts.{newest-is}
use Rattle.pm_model_folder.proofs.laws.newest_law.Goals as goal

pub returns : goal.returns
returns c = newest-is
