use Rattle.pm_machine.proofs.Facts.{moved, acted}
use Rattle.pm_commit.proofs.StepLemmas.{over-on, steps-on}
use Rattle.pm_commit.proofs.committer.commit_step.Goals as goal

pub returns-in-Err-clause-moves : goal.returns-in-Err-clause-moves
returns-in-Err-clause-moves g c = λ e. moved (c.machine_law.ensures.sound e) c.step.ensures.stepped

pub returns-in-Err-clause-alone : goal.returns-in-Err-clause-alone
returns-in-Err-clause-alone g c = λ b.
    rw c.in-Err.is at (c.machine_law.ensures.alone _ _ _ _ _ c.step.ensures.stepped b)

pub returns-in-Err-clause-acts : goal.returns-in-Err-clause-acts
returns-in-Err-clause-acts g c = λ s first.
    rw c.in-Err.is at (acted (c.machine_law.ensures.recounts s first) c.step.ensures.stepped)

pub returns-in-Err-clause-over : goal.returns-in-Err-clause-over
returns-in-Err-clause-over g c = rw c.in-Err.is at (over-on c.step.ensures.stepped)

pub returns-in-Ok-clause-moves : goal.returns-in-Ok-clause-moves
returns-in-Ok-clause-moves g c = λ e. moved (c.machine_law.ensures.sound e) c.step.ensures.stepped

pub returns-in-Ok-clause-alone : goal.returns-in-Ok-clause-alone
returns-in-Ok-clause-alone g c = λ b.
    rw c.in-Ok.is at (c.machine_law.ensures.alone _ _ _ _ _ c.step.ensures.stepped b)

pub returns-in-Ok-clause-acts : goal.returns-in-Ok-clause-acts
returns-in-Ok-clause-acts g c = λ s first.
    rw c.in-Ok.is at (acted (c.machine_law.ensures.recounts s first) c.step.ensures.stepped)

pub returns-in-Ok-clause-reaches : goal.returns-in-Ok-clause-reaches
returns-in-Ok-clause-reaches g c =
    let on = rw c.in-Ok.is at (steps-on c.read_entry_law.ensures.manifest c.step.ensures.stepped c.known.ensures c.requires) in
    rw c.reached.ensures on.1

pub returns-in-Ok-clause-fewer : goal.returns-in-Ok-clause-fewer
returns-in-Ok-clause-fewer g c =
    let on = rw c.in-Ok.is at (steps-on c.read_entry_law.ensures.manifest c.step.ensures.stepped c.known.ensures c.requires) in
    on.0
