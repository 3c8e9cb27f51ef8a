use Rattle.pm_compactor.proofs.PartLemmasAfter.{opens-on}
use Rattle.pm_compactor.proofs.after.open.Goals as goal

pub returns-in-Ok-clause-opens : goal.returns-in-Ok-clause-opens
returns-in-Ok-clause-opens c =
    opens-on c.args.asking c.args.view c.in-Ok.chosen.items c.plan.result (rw c.asked_in-asked.ensures at (rw c.rule_of-rule.ensures at c.in-Ok.ensures.chosen))
    c.in-Ok.ensures.ordered c.requires c.plan.ensures.none c.plan.ensures.some
