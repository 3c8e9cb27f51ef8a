use Rattle.pm_aggregate.proofs.FunctionLaws.{all-lifts}
use Rattle.pm_aggregate.proofs.truths.BoolAndAggregator.lift.Goals as goal

-- what is left of the row's value speaks for it
pub returns : goal.returns
returns c = record {
  lifts = λ kind same of_type.
      all-lifts c.args.self.now.kind c.args.self.now.skips kind c.args.retract c.args.value c.lifted.result same c.lifted.ensures c.requires.taken of_type;
}
