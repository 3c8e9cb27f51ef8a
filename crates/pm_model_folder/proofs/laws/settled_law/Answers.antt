use Rattle.pm_model_folder.proofs.LedgerFacts.{found-all, found-names, have-settled}
use Rattle.pm_model_folder.proofs.laws.settled_law.Goals as goal

pub returns-clause-found : goal.returns-clause-found
returns-clause-found c = found-names c.found_law.ensures

pub returns-clause-known : goal.returns-clause-known
returns-clause-known c = have-settled

pub returns-clause-all : goal.returns-clause-all
returns-clause-all c = found-all c.found_law.ensures
