use Rattle.std.proofs.Common.{arith}
use Rattle.pm_options.specs.Settings.{views}
use Rattle.pm_settings.proofs.ReadLemmas.{trigger-small}
use Rattle.pm_settings.proofs.read.levels_at.Goals as goal

pub overflow_add-trigger : goal.overflow_add-trigger
overflow_add-trigger c = omega (arith, trigger-small (views c.args.settings.now), c.number_or-trigger.ensures)
