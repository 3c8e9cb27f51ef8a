use Rattle.pm_aggregate.proofs.FunctionLaws.{first_non_null-lifts}
use Rattle.pm_aggregate.proofs.ends.FirstNonNullValueAggregator.lift.Goals as goal

-- what is left of the row's value speaks for it
pub returns : goal.returns
returns c = record {
  lifts = λ kind same of_type.
      first_non_null-lifts c.args.self.now.kind c.args.self.now.skips kind c.args.retract c.args.value c.left.result same c.left.ensures c.requires.taken of_type;
}
