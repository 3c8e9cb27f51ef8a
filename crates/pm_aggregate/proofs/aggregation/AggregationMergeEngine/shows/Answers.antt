use Rattle.pm_aggregate.proofs.AggregationLemmas.{shows-some}
use Rattle.pm_aggregate.proofs.aggregation.AggregationMergeEngine.shows.Goals as goal

-- a stored row shows
pub returns-clause-alone : goal.returns-clause-alone
returns-clause-alone c = shows-some c.args.self.now.schema c.args.self.now.aggregates c.args.self.now.can _ (λ e. cc)

-- and the rows that it speaks for do
pub returns-clause-shows : goal.returns-clause-shows
returns-clause-shows c key rows speaks = shows-some c.args.self.now.schema c.args.self.now.aggregates c.args.self.now.can rows speaks.some
