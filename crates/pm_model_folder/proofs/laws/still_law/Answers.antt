use Rattle.pm_model_folder.proofs.LedgerFacts.{still-past}
use Rattle.pm_model_folder.proofs.laws.still_law.Goals as goal

pub returns : goal.returns
returns c = still-past c.one_contents_law.ensures (record { there = c.there_law.ensures; still = c.still_law.ensures })
