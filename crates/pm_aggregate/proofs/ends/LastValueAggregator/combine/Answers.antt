use Rattle.pm_aggregate.proofs.EndLemmas.{last-combines}
use Rattle.pm_aggregate.proofs.ends.LastValueAggregator.combine.Goals as goal

-- the newer value speaks for what both speak for
pub returns : goal.returns
returns c = record {
  combines = λ before after one two. last-combines c.args.self.now.kind c.args._older c.args.newer before after one two;
}
