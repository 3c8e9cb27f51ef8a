use Rattle.pm_machine.proofs.PhaseFacts.{truthful_of_none}
use Rattle.pm_register.proofs.Facts.{goes, has_call, moves_of, recounts, sound}
use Rattle.pm_register.proofs.registrar.step_registrar.Goals as goal

pub make_step-requires-clause-sound : goal.make_step-requires-clause-sound
make_step-requires-clause-sound g c =
    sound (record {
      reads = c.consumer_law.ensures.again;
      stays = c.past_law.ensures;
      steps = c.steps_law.ensures.consumer;
    })

pub make_step-requires-clause-truthful : goal.make_step-requires-clause-truthful
make_step-requires-clause-truthful g c = truthful_of_none _ _ _ _ _ _

pub make_step-requires-clause-recounts : goal.make_step-requires-clause-recounts
make_step-requires-clause-recounts g c = recounts

pub make_step-requires-clause-goes : goal.make_step-requires-clause-goes
make_step-requires-clause-goes g c = λ m answer new is. goes m answer new

pub make_step-requires-clause-has_call : goal.make_step-requires-clause-has_call
make_step-requires-clause-has_call g c = λ m is. has_call m

pub returns-clause-moves : goal.returns-clause-moves
returns-clause-moves g c =
    let seen = g.F.FileStore.seen in
    λ me r. moves_of me r c.args.registrar.now c.make_step.new.machine (seen c.args.store.now) (seen c.make_step.new.store) c.make_step.ensures.moves
