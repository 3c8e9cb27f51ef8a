use Rattle.pm_model_folder.proofs.LedgerFacts.{beside-moving}
use Rattle.pm_model_folder.proofs.laws.beside_law.Goals as goal

pub returns : goal.returns
returns c = beside-moving
