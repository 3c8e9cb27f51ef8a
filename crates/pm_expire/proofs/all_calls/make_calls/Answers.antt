use Rattle.std.proofs.Common.{rules, ◌≡◌}
use Rattle.pm_expire.specs.declared.expirer.ExpireStep.TheVariants as steps
use Rattle.pm_expire.specs.declared.phase.Phase.TheVariants as phases
use Rattle.pm_expire.proofs.BesideLemmas.{CallLaws, brings-more, brought-done, brought-none, brought-refused, came-done, came-further, came-refused, followed-from, followed-none, followed-on}
use Rattle.pm_expire.proofs.all_calls.make_calls.Goals as goal

pub loop-first-init : goal.loop-first-init
loop-first-init g c =
    let seen = g.F.FileStore.seen in
    record {
      trace = λ a first come. come;
      brought = brought-none c.args.expirer (seen c.args.store.now);
      alone = followed-none c.args.expirer (seen c.args.store.now);
      left = search rules;
      later = search rules;
    }

pub loop-first-preserved : goal.loop-first-preserved
loop-first-preserved g c =
    let seen = g.F.FileStore.seen in
    let laws : CallLaws = record { past = c.past_law.ensures; known = c.known_law.ensures } in
    record {
      trace = λ a first come. came-further a c.loop-first.expirer c.step_expirer.new.expirer first (seen c.loop-first.store)
          (seen c.step_expirer.new.store) steps.More (c.loop-first.invariant.trace a first come) c.in-Ok-More.ensures.acts c.step_expirer.ensures.later;
      brought = λ me. brings-more laws me c.args.expirer c.loop-first.expirer c.step_expirer.new.expirer (seen c.args.store.now) (seen c.loop-first.store)
          (seen c.step_expirer.new.store) (c.loop-first.invariant.brought me) c.step_expirer.ensures.moves;
      alone = followed-on laws c.args.expirer c.loop-first.expirer c.step_expirer.new.expirer (seen c.args.store.now) (seen c.loop-first.store)
          (seen c.step_expirer.new.store) c.loop-first.invariant.later c.step_expirer.ensures.later c.loop-first.invariant.alone c.step_expirer.ensures.moves;
      left = rw c.in-Ok-More.field-0-is at c.in-Ok-More.ensures.reaches;
      later = search rules;
    }

pub returns-in-Ok-Done-clause-trace : goal.returns-in-Ok-Done-clause-trace
returns-in-Ok-Done-clause-trace g c = λ a first come.
    let seen = g.F.FileStore.seen in
    let is : c.step_expirer.new.expirer ≡ phases.Done c.in-Ok-Done.first c.in-Ok-Done.last = rw c.in-Ok-Done.field-0-is at c.in-Ok-Done.ensures.reaches in
    came-done a c.step_expirer.new.expirer c.in-Ok-Done.first c.in-Ok-Done.last first (seen c.step_expirer.new.store) is
    (came-further a c.loop-first.expirer c.step_expirer.new.expirer first (seen c.loop-first.store) (seen c.step_expirer.new.store)
    (steps.Done c.in-Ok-Done.first c.in-Ok-Done.last) (c.loop-first.invariant.trace a first come) c.in-Ok-Done.ensures.acts c.step_expirer.ensures.later)

pub returns-in-Ok-Done-clause-beside : goal.returns-in-Ok-Done-clause-beside
returns-in-Ok-Done-clause-beside g c = λ me.
    let seen = g.F.FileStore.seen in
    let laws : CallLaws = record { past = c.past_law.ensures; known = c.known_law.ensures } in
    let is : c.step_expirer.new.expirer ≡ phases.Done c.in-Ok-Done.first c.in-Ok-Done.last = rw c.in-Ok-Done.field-0-is at c.in-Ok-Done.ensures.reaches in
    brought-done me c.args.expirer c.step_expirer.new.expirer c.in-Ok-Done.first c.in-Ok-Done.last (seen c.args.store.now) (seen c.step_expirer.new.store) is
    (λ one. brings-more laws one c.args.expirer c.loop-first.expirer c.step_expirer.new.expirer (seen c.args.store.now) (seen c.loop-first.store)
    (seen c.step_expirer.new.store) (c.loop-first.invariant.brought one) c.step_expirer.ensures.moves)

pub returns-in-Ok-Done-clause-alone : goal.returns-in-Ok-Done-clause-alone
returns-in-Ok-Done-clause-alone g c =
    let seen = g.F.FileStore.seen in
    let laws : CallLaws = record { past = c.past_law.ensures; known = c.known_law.ensures } in
    followed-from c.args.expirer c.step_expirer.new.expirer (seen c.args.store.now) (seen c.step_expirer.new.store)
    (followed-on laws c.args.expirer c.loop-first.expirer c.step_expirer.new.expirer (seen c.args.store.now) (seen c.loop-first.store)
    (seen c.step_expirer.new.store) c.loop-first.invariant.later c.step_expirer.ensures.later c.loop-first.invariant.alone c.step_expirer.ensures.moves)

pub returns-in-Err-clause-trace : goal.returns-in-Err-clause-trace
returns-in-Err-clause-trace g c = λ a first come.
    let seen = g.F.FileStore.seen in
    came-refused a c.loop-first.expirer c.step_expirer.new.expirer first (seen c.loop-first.store) (seen c.step_expirer.new.store) c.in-Err.refusal
    (c.loop-first.invariant.trace a first come) c.in-Err.ensures.acts c.step_expirer.ensures.later

pub returns-in-Err-clause-beside : goal.returns-in-Err-clause-beside
returns-in-Err-clause-beside g c = λ me.
    let seen = g.F.FileStore.seen in
    let laws : CallLaws = record { past = c.past_law.ensures; known = c.known_law.ensures } in
    brought-refused laws me c.args.expirer c.loop-first.expirer c.in-Err.refusal (seen c.args.store.now) (seen c.loop-first.store)
    (seen c.step_expirer.new.store) (c.loop-first.invariant.brought me) c.in-Err.ensures.tells

pub returns-in-Err-clause-alone : goal.returns-in-Err-clause-alone
returns-in-Err-clause-alone g c =
    let seen = g.F.FileStore.seen in
    let laws : CallLaws = record { past = c.past_law.ensures; known = c.known_law.ensures } in
    followed-from c.args.expirer c.step_expirer.new.expirer (seen c.args.store.now) (seen c.step_expirer.new.store)
    (followed-on laws c.args.expirer c.loop-first.expirer c.step_expirer.new.expirer (seen c.args.store.now) (seen c.loop-first.store)
    (seen c.step_expirer.new.store) c.loop-first.invariant.later c.step_expirer.ensures.later c.loop-first.invariant.alone c.step_expirer.ensures.moves)
