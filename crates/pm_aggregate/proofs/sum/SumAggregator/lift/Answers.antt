use Rattle.pm_aggregate.proofs.FunctionLaws.{sum-lifts}
use Rattle.pm_aggregate.proofs.sum.SumAggregator.lift.Goals as goal

-- the sum of the row speaks for it
pub returns : goal.returns
returns c = record {
  lifts = λ kind same of_type.
      sum-lifts c.args.self.now.kind c.args.self.now.skips kind c.args.value c.lifted.result (c.lifted.ensures kind same) of_type;
}
