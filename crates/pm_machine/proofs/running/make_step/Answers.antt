use Rattle.pm_machine.proofs.Facts.{moved, acted, told}
use Rattle.pm_machine.proofs.running.make_step.Goals as goal

pub returns-in-Ok-clause-moves : goal.returns-in-Ok-clause-moves
returns-in-Ok-clause-moves g c = moved c.requires.sound c.step.ensures.stepped

pub returns-in-Ok-clause-acts : goal.returns-in-Ok-clause-acts
returns-in-Ok-clause-acts g c = λ asked. rw c.in-Ok.is at (acted (c.requires.recounts asked) c.step.ensures.stepped)

pub returns-in-Err-clause-moves : goal.returns-in-Err-clause-moves
returns-in-Err-clause-moves g c = moved c.requires.sound c.step.ensures.stepped

pub returns-in-Err-clause-acts : goal.returns-in-Err-clause-acts
returns-in-Err-clause-acts g c = λ asked. rw c.in-Err.is at (acted (c.requires.recounts asked) c.step.ensures.stepped)

pub returns-in-Err-clause-tells : goal.returns-in-Err-clause-tells
returns-in-Err-clause-tells g c = rw c.in-Err.is at (told c.requires.sound c.requires.truthful c.known.ensures c.step.ensures.stepped)
