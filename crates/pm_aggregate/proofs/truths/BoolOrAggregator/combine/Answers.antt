use Rattle.pm_aggregate.proofs.FunctionLaws.{any-combines}
use Rattle.pm_aggregate.proofs.truths.BoolOrAggregator.combine.Goals as goal

-- the value speaks for what both speak for
pub returns : goal.returns
returns c = record {
  combines = λ before after one two.
      any-combines c.args.self.now.kind c.args.self.now.skips c.args.older c.args.newer c.any.result before after c.any.ensures one two;
}
