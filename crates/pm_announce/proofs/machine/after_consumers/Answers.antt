use Rattle.pm_consumers.proofs.Facts as consumers_facts
use Rattle.pm_announce.proofs.machine.after_consumers.Goals as goal

pub with_consumers-requires-clause-left : goal.with_consumers-requires-clause-left
with_consumers-requires-clause-left c = (consumers_facts.goes_ahead c.args.consumers c.args.answer c.take.new.self c.in-Ok.ensures.goes).1
