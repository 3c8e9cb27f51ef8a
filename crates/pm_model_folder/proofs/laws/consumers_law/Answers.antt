use Rattle.pm_model_folder.proofs.LedgerFacts.{counts-needs, moved-frames, step-moves}
use Rattle.pm_model_folder.proofs.laws.consumers_law.Goals as goal

pub returns-clause-counts : goal.returns-clause-counts
returns-clause-counts c = counts-needs c.least_law.ensures

pub returns-clause-frames : goal.returns-clause-frames
returns-clause-frames c = moved-frames

pub returns-clause-moved : goal.returns-clause-moved
returns-clause-moved c = step-moves c.one_contents_law.ensures c.same_law.ensures c.kept_law.ensures.change
