use Rattle.pm_model_folder.proofs.Facts.{listed-none, listed-first}
use Rattle.pm_model_folder.proofs.laws.listed_law.Goals as goal

pub returns-clause-none : goal.returns-clause-none
returns-clause-none c = listed-none

pub returns-clause-first : goal.returns-clause-first
returns-clause-first c = listed-first
