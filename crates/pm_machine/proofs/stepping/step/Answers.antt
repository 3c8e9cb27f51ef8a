use Rattle.std.proofs.Common.{refl}
use Rattle.pm_machine.specs.Step.{Rested}
use Rattle.pm_machine.proofs.StepLemmas.{took, unanswered}
use Rattle.pm_machine.proofs.stepping.step.Goals as goal

pub take-requires : goal.take-requires
take-requires g c =
    let called = rw c.in-Ok-Some.field-0-is at c.in-Ok-Some.ensures.called in
    record { may = rw called.1 called.2.1 }

pub returns-in-Ok-Some-clause-stepped : goal.returns-in-Ok-Some-clause-stepped
returns-in-Ok-Some-clause-stepped g c =
    let called = rw c.in-Ok-Some.field-0-is at c.in-Ok-Some.ensures.called in
    took called.0 c.in-Ok-Some.answer c.take.result called.1 called.2 c.take.ensures.goes c.take.ensures.refuses

pub returns-in-Ok-None-clause-stepped : goal.returns-in-Ok-None-clause-stepped
returns-in-Ok-None-clause-stepped g c =
    let called = rw c.in-Ok-None.field-0-is at c.in-Ok-None.ensures.called in
    Rested called.0 refl called.1

pub returns-in-Err-clause-stepped : goal.returns-in-Err-clause-stepped
returns-in-Err-clause-stepped g c =
    let called = c.in-Err.ensures.called in
    rw called.2.1 (unanswered called.0 called.2.0 called.1 called.2.2 c.stop.ensures.stops)
