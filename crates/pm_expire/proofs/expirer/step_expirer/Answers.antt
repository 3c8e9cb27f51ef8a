use Rattle.pm_expire.specs.Meaning.{Knows}
use Rattle.pm_expire.proofs.CallLemmas.{goes, has_call, moves_of, told_of}
use Rattle.pm_expire.proofs.ToldLemmas.{truthful}
use Rattle.pm_expire.proofs.expirer.step_expirer.Goals as goal

pub make_step-requires-clause-sound : goal.make_step-requires-clause-sound
make_step-requires-clause-sound g c = c.sound_law.ensures

pub make_step-requires-clause-truthful : goal.make_step-requires-clause-truthful
make_step-requires-clause-truthful g c = truthful c.causes_law.ensures

pub make_step-requires-clause-recounts : goal.make_step-requires-clause-recounts
make_step-requires-clause-recounts g c = c.recounts_law.ensures

pub make_step-requires-clause-goes : goal.make_step-requires-clause-goes
make_step-requires-clause-goes g c = goes

pub make_step-requires-clause-has_call : goal.make_step-requires-clause-has_call
make_step-requires-clause-has_call g c = has_call

pub returns-clause-moves : goal.returns-clause-moves
returns-clause-moves g c =
    let seen = g.F.FileStore.seen in
    λ me. moves_of me c.args.expirer.now (Knows c.make_step.new.machine) (seen c.args.store.now) (seen c.make_step.new.store) c.make_step.ensures.moves

pub returns-clause-tells : goal.returns-clause-tells
returns-clause-tells g c =
    let seen = g.F.FileStore.seen in
    told_of c.args.expirer.now c.make_step.result (seen c.args.store.now) (seen c.make_step.new.store) c.make_step.ensures.tells
