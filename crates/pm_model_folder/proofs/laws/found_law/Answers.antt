use Rattle.pm_model_folder.proofs.LedgerFacts.{found}
use Rattle.pm_model_folder.proofs.laws.found_law.Goals as goal

pub returns : goal.returns
returns c = found c.found_law.ensures
