use Rattle.pm_aggregate.proofs.FunctionLaws.{joined-lifts}
use Rattle.pm_aggregate.proofs.list_agg.ListAggAggregator.lift.Goals as goal

-- the row's text speaks for it
pub returns : goal.returns
returns c = record {
  lifts = λ kind same of_type.
      joined-lifts c.args.self.now.kind c.args.self.now.skips c.args.self.now.delimiter kind c.args.retract c.args.value c.lifted.result same c.lifted.ensures c.requires.taken of_type;
}
