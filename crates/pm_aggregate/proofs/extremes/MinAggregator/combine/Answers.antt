use Rattle.pm_aggregate.proofs.FunctionLaws.{least-combines}
use Rattle.pm_aggregate.proofs.extremes.MinAggregator.combine.Goals as goal

-- the value speaks for what both speak for
pub returns : goal.returns
returns c = record {
  combines = λ before after one two.
      least-combines c.args.self.now.kind c.args.self.now.skips c.args.older c.args.newer c.lesser.result before after c.lesser.ensures one two;
}
