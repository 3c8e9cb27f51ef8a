use Rattle.pm_cli.proofs.Follow.{consumed, replayed}
use Rattle.pm_cli.proofs.laws.frames_law.Goals as goal

pub returns-clause-replayed : goal.returns-clause-replayed
returns-clause-replayed c = replayed c.replay_law.ensures.printed

pub returns-clause-consumed : goal.returns-clause-consumed
returns-clause-consumed c = consumed c.replay_law.ensures.printed

pub returns-clause-finished : goal.returns-clause-finished
returns-clause-finished c = c.replay_law.ensures.finished

pub returns-clause-input : goal.returns-clause-input
returns-clause-input c = c.replay_law.ensures.input

pub returns-clause-scanned : goal.returns-clause-scanned
returns-clause-scanned c = c.replay_law.ensures.scanned

pub returns-clause-starting : goal.returns-clause-starting
returns-clause-starting c = c.replay_law.ensures.starting
