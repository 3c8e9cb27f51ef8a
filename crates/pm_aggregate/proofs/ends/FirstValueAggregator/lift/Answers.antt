use Rattle.std.proofs.Common.{not, ap, ◌∙◌}
use Rattle.pm_aggregate.proofs.EndLemmas.{first-lifts}
use Rattle.pm_aggregate.proofs.ends.FirstValueAggregator.lift.Goals as goal

-- the row's value speaks for it
pub returns : goal.returns
returns c = record {
  lifts = λ kind same of_type.
      first-lifts c.args.self.now.kind kind c.args.value (record { of_type = of_type; taken = ap not same ∙ c.requires.taken });
}
