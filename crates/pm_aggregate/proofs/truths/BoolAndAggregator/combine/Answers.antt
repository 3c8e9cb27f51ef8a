use Rattle.pm_aggregate.proofs.FunctionLaws.{all-combines}
use Rattle.pm_aggregate.proofs.truths.BoolAndAggregator.combine.Goals as goal

-- the value speaks for what both speak for
pub returns : goal.returns
returns c = record {
  combines = λ before after one two.
      all-combines c.args.self.now.kind c.args.self.now.skips c.args.older c.args.newer c.all.result before after c.all.ensures one two;
}
