use Rattle.pm_model_folder.proofs.Facts.{goes_on}
use Rattle.pm_model_folder.proofs.laws.goes_on_law.Goals as goal

pub returns : goal.returns
returns c = goes_on
