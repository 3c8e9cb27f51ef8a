use Rattle.pm_machine.proofs.lawful.take_step.Goals as goal

pub make_step-requires-clause-goes : goal.make_step-requires-clause-goes
make_step-requires-clause-goes g c = λ m answer new is on. let ahead = c.laws.ensures.goes m answer new is on in (ahead.0, ahead.1, c.laws.ensures.keeps m answer new on)
