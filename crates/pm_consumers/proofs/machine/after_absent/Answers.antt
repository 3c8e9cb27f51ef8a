use Rattle.std.proofs.Common.{ap}
use Rattle.pm_consumers.specs.declared.phase.Phase.TheVariants as phases
use Rattle.pm_consumers.proofs.Facts.{passed}
use Rattle.pm_consumers.proofs.machine.after_absent.Goals as goal

pub returns : goal.returns
returns c = passed c.args.reading (phases.Read c.pass.result) c.requires (λ name. ap phases.Read (c.pass.ensures name))
