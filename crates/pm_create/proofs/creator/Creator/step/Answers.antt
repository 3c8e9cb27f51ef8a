use Rattle.std.proofs.Common.{ap}
use Rattle.pm_machine.proofs.PhaseFacts.{truthful_of_none}
use Rattle.pm_create.specs.Creator.{actor_of, new_table, CreatorView}
use Rattle.pm_create.specs.Meaning.{CreatorMoved}
use Rattle.pm_create.proofs.Facts.{sound, recounts, goes, has_call, moves_of, still_of}
use Rattle.pm_create.proofs.creator.Creator.step.Goals as goal

pub make_step-requires-clause-sound : goal.make_step-requires-clause-sound
make_step-requires-clause-sound g c =
    sound (λ path text s reads. c.declared_law.ensures.file path text s ((c.schema_law.ensures.exact path text s).0 reads))

pub make_step-requires-clause-truthful : goal.make_step-requires-clause-truthful
make_step-requires-clause-truthful g c = truthful_of_none _ _ _ _ _ _

pub make_step-requires-clause-recounts : goal.make_step-requires-clause-recounts
make_step-requires-clause-recounts g c = recounts

pub make_step-requires-clause-goes : goal.make_step-requires-clause-goes
make_step-requires-clause-goes g c = λ m answer new is. goes m answer new

pub make_step-requires-clause-has_call : goal.make_step-requires-clause-has_call
make_step-requires-clause-has_call g c = λ m is. has_call m

pub returns-clause-moves : goal.returns-clause-moves
returns-clause-moves g c =
    let seen = g.F.FileStore.seen in
    let moved : CreatorMoved c.self.inside.running c.make_step.new.machine (seen c.args.store.now) (seen c.make_step.new.store) =
    λ t. moves_of t c.self.inside.running c.make_step.new.machine (seen c.args.store.now) (seen c.make_step.new.store) c.make_step.ensures.moves in
    rw (ap (λ (m : CreatorView). m.phase) c.self.view_is) at moved

pub returns-clause-acts : goal.returns-clause-acts
returns-clause-acts g c = rw (ap (λ (m : CreatorView). m.phase) c.self.view_is) at c.make_step.ensures.acts

pub invariant_of-self : goal.invariant_of-self
invariant_of-self g c = (
  c.self.invariant.0,
  still_of (new_table (actor_of c.self.inside.session c.self.inside.actor) c.self.inside.schema) c.self.inside.running c.make_step.new.machine
      c.make_step.result c.make_step.ensures.keeps c.make_step.ensures.over c.self.invariant.1,
)
