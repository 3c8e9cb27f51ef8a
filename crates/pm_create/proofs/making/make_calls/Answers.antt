use Rattle.std.proofs.Common.{arith}
use Rattle.pm_create.proofs.MakingLemmas.{made_calls, refused_first, refused_then}
use Rattle.pm_create.proofs.making.make_calls.Goals as goal

pub returns-in-Err-clause-trace : goal.returns-in-Err-clause-trace
returns-in-Err-clause-trace g c =
    let seen = g.F.FileStore.seen in
    refused_first c.args.creator.now.table c.args.creator.now.phase c.step.new.self.phase (seen c.args.store.now) (seen c.step.new.store)
    c.in-Err.refusal c.requires.is_creator.1 c.requires.is_new c.in-Err.ensures.acts c.step.ensures.later

pub returns-in-Ok-step-clause-trace : goal.returns-in-Ok-step-clause-trace
returns-in-Ok-step-clause-trace g c =
    let seen = g.F.FileStore.seen in
    let fewer = c.in-Ok.ensures.fewer in
    let left = c.requires.is_new in
    let last = c.in-Ok-step.ensures.fewer in
    made_calls c.args.creator.now.table c.args.creator.now.phase c.step.new.self.phase c.step-2.new.self.phase (seen c.args.store.now)
    (seen c.step.new.store) (seen c.step-2.new.store) c.in-Ok.field-0 c.in-Ok-step.field-0 c.requires.is_creator.1 c.requires.is_new
    c.in-Ok.ensures.acts c.step.ensures.later c.in-Ok-step.ensures.acts c.in-Ok-step.ensures.reaches (omega (arith, fewer, left, last))
    c.step-2.ensures.later

pub returns-in-Err-step-clause-trace : goal.returns-in-Err-step-clause-trace
returns-in-Err-step-clause-trace g c =
    let seen = g.F.FileStore.seen in
    refused_then c.args.creator.now.table c.args.creator.now.phase c.step.new.self.phase c.step-2.new.self.phase (seen c.args.store.now)
    (seen c.step.new.store) (seen c.step-2.new.store) c.in-Ok.field-0 c.in-Err-step.refusal c.requires.is_creator.1 c.requires.is_new
    c.in-Ok.ensures.acts c.step.ensures.later c.in-Err-step.ensures.acts c.step-2.ensures.later
