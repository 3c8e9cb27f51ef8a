use Rattle.pm_machine.proofs.PhaseFacts.{truthful_of_none}
use Rattle.pm_model_folder.specs.Ledger.{Stands}
use Rattle.pm_move_consumer.specs.MoverMeaning.{Knows, MayMovePast}
use Rattle.pm_move_consumer.proofs.MoverFacts.{goes, has_call, recounts, sound}
use Rattle.pm_move_consumer.proofs.SideLemmas.{moves_of}
use Rattle.pm_move_consumer.proofs.mover.step_mover.Goals as goal

pub make_step-requires-clause-sound : goal.make_step-requires-clause-sound
make_step-requires-clause-sound g c =
    sound (record { steps = c.steps_law.ensures.consumer; again = c.consumer_law.ensures.again; next = c.consumer_law.ensures.next })

pub make_step-requires-clause-truthful : goal.make_step-requires-clause-truthful
make_step-requires-clause-truthful g c = truthful_of_none _ _ _ _ _ _

pub make_step-requires-clause-recounts : goal.make_step-requires-clause-recounts
make_step-requires-clause-recounts g c = recounts

pub make_step-requires-clause-goes : goal.make_step-requires-clause-goes
make_step-requires-clause-goes g c = λ phase answer new is. goes phase answer new

pub make_step-requires-clause-has_call : goal.make_step-requires-clause-has_call
make_step-requires-clause-has_call g c = λ phase is. has_call phase

pub returns-clause-moves : goal.returns-clause-moves
returns-clause-moves g c =
    let seen = g.F.FileStore.seen in
    λ m. moves_of Stands MayMovePast Knows m c.args.mover.now c.make_step.new.machine (seen c.args.store.now) (seen c.make_step.new.store) c.make_step.ensures.moves
