use Rattle.pm_model_folder.proofs.LedgerFacts.{never-falls}
use Rattle.pm_model_folder.proofs.laws.appends_law.Goals as goal

pub returns : goal.returns
returns c = never-falls
