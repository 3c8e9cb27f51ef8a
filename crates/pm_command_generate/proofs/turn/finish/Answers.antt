use Rattle.std.proofs.Common.{Some, refl, ap, arith}
use Rattle.pm_command_generate.proofs.turn.finish.Goals as goal

pub returns-in-Ok : goal.returns-in-Ok
returns-in-Ok c = rw c.in-Ok.is (refl, omega arith, rw c.bytes.ensures at c.last_of-turn.ensures)

pub returns-in-Err : goal.returns-in-Err
returns-in-Err c = rw c.in-Err.is (ap Some c.told.ensures)
