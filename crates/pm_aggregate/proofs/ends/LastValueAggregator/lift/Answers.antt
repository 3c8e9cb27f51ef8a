use Rattle.std.proofs.Common.{cond, ap, subst, sym, ◌∷◌, [], ◌∙◌}
use Rattle.pm_values.specs.declared.value.Value.TheVariants.{Null}
use Rattle.pm_aggregate.specs.Column.{SpeaksForCells}
use Rattle.pm_aggregate.specs.Functions.{last_of}
use Rattle.pm_aggregate.proofs.EndLemmas.{last-lifts}
use Rattle.pm_aggregate.proofs.ends.LastValueAggregator.lift.Goals as goal

-- what is left of the row's value speaks for it
pub returns : goal.returns
returns c = record {
  lifts = λ kind same of_type.
      subst (λ v. SpeaksForCells (last_of c.args.self.now.kind) v ((kind, c.args.value) ∷ []))
      (ap (λ b. cond b Null c.args.value) same ∙ sym c.left.ensures) (last-lifts c.args.self.now.kind kind c.args.value of_type);
}
