use Rattle.pm_partial.proofs.PartialLemmas.{shows-some}
use Rattle.pm_partial.proofs.partial_update.PartialUpdateMergeEngine.shows.Goals as goal

-- a stored row shows
pub returns-clause-alone : goal.returns-clause-alone
returns-clause-alone c = shows-some c.args.self.now.schema c.args.self.now.in_part c.args.self.now.can c.args._stored.now.row _ (λ e. cc)

-- and the rows that it speaks for do
pub returns-clause-shows : goal.returns-clause-shows
returns-clause-shows c key rows speaks = shows-some c.args.self.now.schema c.args.self.now.in_part c.args.self.now.can key rows speaks.some
