use Rattle.pm_aggregate.proofs.FunctionLaws.{last_non_null-combines}
use Rattle.pm_aggregate.proofs.ends.LastNonNullValueAggregator.combine.Goals as goal

-- the value speaks for what both speak for
pub returns : goal.returns
returns c = record {
  combines = λ before after one two.
      last_non_null-combines c.args.self.now.kind c.args.self.now.skips c.args.older c.args.newer c.latest.result before after c.latest.ensures one two;
}
