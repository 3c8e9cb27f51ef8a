use Rattle.pm_aggregate.proofs.FunctionLaws.{first_non_null-combines}
use Rattle.pm_aggregate.proofs.ends.FirstNonNullValueAggregator.combine.Goals as goal

-- the value speaks for what both speak for
pub returns : goal.returns
returns c = record {
  combines = λ before after one two.
      first_non_null-combines c.args.self.now.kind c.args.self.now.skips c.args.older c.args.newer c.earliest.result before after c.earliest.ensures one two;
}
