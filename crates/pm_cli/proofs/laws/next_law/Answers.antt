use Rattle.pm_command.specs.Outside.{actor}
use Rattle.pm_cli.specs.Start.{MayStart}
use Rattle.pm_cli.proofs.First.{acts_goes_on, from_before}
use Rattle.pm_cli.proofs.laws.next_law.Goals as goal

pub returns : goal.returns
returns c = λ e h is alone here.
    from_before (MayStart e.command (actor e.start) h) e.before.store e.after.store (acts_goes_on e.command is.single e.start e.before e.after e.refusal is.acts)
    alone here
