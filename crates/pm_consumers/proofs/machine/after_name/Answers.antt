use Rattle.std.proofs.Common.{Some, ap, sym, ◌∙◌}
use Rattle.pm_snapshot.specs.Consumer.{consumer_in}
use Rattle.pm_consumers.specs.declared.phase.Phase.TheVariants as phases
use Rattle.pm_consumers.proofs.machine.after_name.Goals as goal

pub returns-in-Ok-add-clause-goes : goal.returns-in-Ok-add-clause-goes
returns-in-Ok-add-clause-goes c = (
  c.args.name,
  Some c.in-Ok.consumer,
  c.requires,
  ap consumer_in (sym c.as_bytes.ensures) ∙ c.in-Ok.ensures.exact,
  ap phases.Read c.in-Ok-add.ensures,
)
