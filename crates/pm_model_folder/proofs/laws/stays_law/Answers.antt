use Rattle.pm_model_folder.proofs.KindFacts.{needed-stays, origin-stays}
use Rattle.pm_model_folder.proofs.LedgerFacts.{own-stays}
use Rattle.pm_model_folder.proofs.laws.stays_law.Goals as goal

pub returns-clause-needed : goal.returns-clause-needed
returns-clause-needed c = needed-stays

pub returns-clause-own : goal.returns-clause-own
returns-clause-own c = own-stays

pub returns-clause-origin : goal.returns-clause-origin
returns-clause-origin c = origin-stays
