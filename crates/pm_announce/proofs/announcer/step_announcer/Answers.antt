use Rattle.pm_read_expiry.specs.declared.phase.Phase.TheVariants as phases
use Rattle.pm_announce.specs.Meaning.{Knows}
use Rattle.pm_announce.proofs.CauseLemmas.{truthful}
use Rattle.pm_announce.proofs.Facts.{goes, has_call, moves_of, recounts, sound, told_of}
use Rattle.pm_announce.proofs.announcer.step_announcer.Goals as goal

pub make_step-requires-clause-sound : goal.make_step-requires-clause-sound
make_step-requires-clause-sound g c =
    sound (record {
      stays = c.past_law.ensures;
      found = λ x. c.known_law.ensures (phases.Ready x);
      appears = c.announces_law.ensures.change;
      announces = c.announces_law.ensures.known;
      lists = c.reads_law.ensures.lists;
      reads = c.reads_law.ensures.reads;
      names = c.listed_law.ensures;
    })

pub make_step-requires-clause-truthful : goal.make_step-requires-clause-truthful
make_step-requires-clause-truthful g c = truthful

pub make_step-requires-clause-recounts : goal.make_step-requires-clause-recounts
make_step-requires-clause-recounts g c = recounts

pub make_step-requires-clause-goes : goal.make_step-requires-clause-goes
make_step-requires-clause-goes g c = λ m answer new is. goes m answer new

pub make_step-requires-clause-has_call : goal.make_step-requires-clause-has_call
make_step-requires-clause-has_call g c = has_call

pub returns-clause-moves : goal.returns-clause-moves
returns-clause-moves g c =
    let seen = g.F.FileStore.seen in
    λ me. moves_of me c.args.announcer.now (Knows c.make_step.new.machine) (seen c.args.store.now) (seen c.make_step.new.store) c.make_step.ensures.moves

pub returns-clause-tells : goal.returns-clause-tells
returns-clause-tells g c =
    let seen = g.F.FileStore.seen in
    told_of c.args.announcer.now c.make_step.result (seen c.args.store.now) (seen c.make_step.new.store) c.make_step.ensures.tells
