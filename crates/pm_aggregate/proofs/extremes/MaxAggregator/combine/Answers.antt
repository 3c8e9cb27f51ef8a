use Rattle.pm_aggregate.proofs.FunctionLaws.{greatest-combines}
use Rattle.pm_aggregate.proofs.extremes.MaxAggregator.combine.Goals as goal

-- the value speaks for what both speak for
pub returns : goal.returns
returns c = record {
  combines = λ before after one two.
      greatest-combines c.args.self.now.kind c.args.self.now.skips c.args.older c.args.newer c.greater.result before after c.greater.ensures one two;
}
