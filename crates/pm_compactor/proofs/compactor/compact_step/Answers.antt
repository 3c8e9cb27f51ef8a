use Rattle.pm_machine.proofs.Facts.{moved, acted}
use Rattle.pm_compactor.proofs.AloneLemmasReach.{over-on, steps-on}
use Rattle.pm_compactor.proofs.compactor.compact_step.Goals as goal

pub returns-in-Err-clause-moves : goal.returns-in-Err-clause-moves
returns-in-Err-clause-moves g c = moved c.machine_law.ensures.sound c.step.ensures.stepped

pub returns-in-Err-clause-alone : goal.returns-in-Err-clause-alone
returns-in-Err-clause-alone g c = λ b. rw c.in-Err.is at (c.alone_law.ensures _ _ _ _ _ c.step.ensures.stepped b)

pub returns-in-Err-clause-acts : goal.returns-in-Err-clause-acts
returns-in-Err-clause-acts g c = λ a. rw c.in-Err.is at (acted (c.machine_law.ensures.recounts a) c.step.ensures.stepped)

pub returns-in-Err-clause-over : goal.returns-in-Err-clause-over
returns-in-Err-clause-over g c = rw c.in-Err.is at (over-on c.step.ensures.stepped)

pub returns-in-Ok-clause-moves : goal.returns-in-Ok-clause-moves
returns-in-Ok-clause-moves g c = moved c.machine_law.ensures.sound c.step.ensures.stepped

pub returns-in-Ok-clause-alone : goal.returns-in-Ok-clause-alone
returns-in-Ok-clause-alone g c = λ b. rw c.in-Ok.is at (c.alone_law.ensures _ _ _ _ _ c.step.ensures.stepped b)

pub returns-in-Ok-clause-acts : goal.returns-in-Ok-clause-acts
returns-in-Ok-clause-acts g c = λ a. rw c.in-Ok.is at (acted (c.machine_law.ensures.recounts a) c.step.ensures.stepped)

pub returns-in-Ok-clause-reaches : goal.returns-in-Ok-clause-reaches
returns-in-Ok-clause-reaches g c =
    let on = rw c.in-Ok.is at (steps-on c.compactor_law.ensures.goes c.compactor_law.ensures.has_call c.step.ensures.stepped c.known.ensures c.requires) in
    rw c.reached.ensures (rw c.phase.ensures.phase on.1)

pub returns-in-Ok-clause-fewer : goal.returns-in-Ok-clause-fewer
returns-in-Ok-clause-fewer g c =
    let on = rw c.in-Ok.is at (steps-on c.compactor_law.ensures.goes c.compactor_law.ensures.has_call c.step.ensures.stepped c.known.ensures c.requires) in
    on.0
