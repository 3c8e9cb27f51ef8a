use Rattle.pm_aggregate.proofs.FunctionLaws.{sum-combines}
use Rattle.pm_aggregate.proofs.sum.SumAggregator.combine.Goals as goal

-- the sum of both speaks for what both speak for
pub returns : goal.returns
returns c = record {
  combines = λ before after one two.
      sum-combines c.args.self.now.kind c.args.self.now.skips c.args.older c.args.newer c.joined.result before after c.joined.ensures one two;
}
