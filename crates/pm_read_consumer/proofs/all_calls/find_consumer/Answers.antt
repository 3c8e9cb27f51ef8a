use Rattle.std.proofs.Common.{subst, ◌<◌}
use Rattle.pm_read_consumer.specs.Reader.{calls_left}
use Rattle.pm_read_consumer.specs.declared.phase.Phase.{Phase}
use Rattle.pm_read_consumer.proofs.AllCallsLemmas.{now_ready, was_found, was_refused, was_stopped}
use Rattle.pm_read_consumer.proofs.BesideLemmas.{found-beside, none-beside, refused-beside}
use Rattle.pm_read_consumer.proofs.all_calls.find_consumer.Goals as goal

pub into_found-requires : goal.into_found-requires
into_found-requires g c =
    now_ready c.take_step.new.reader c.in-Ok-take_step.ensures.reaches
    (subst (λ (m : Phase). calls_left c.take_step.new.reader < calls_left m) c.in-Ok.ensures c.in-Ok-take_step.ensures.fewer)

pub returns-in-Err-clause-trace : goal.returns-in-Err-clause-trace
returns-in-Err-clause-trace g c = was_stopped c.args.name.now (g.F.FileStore.seen c.args.store.now)

pub returns-in-Err-clause-history : goal.returns-in-Err-clause-history
returns-in-Err-clause-history g c =
    let seen = g.F.FileStore.seen c.args.store.now in
    c.all_calls_law.ensures c.args.name.now _ seen seen (was_stopped c.args.name.now seen)

pub returns-in-Err-clause-beside : goal.returns-in-Err-clause-beside
returns-in-Err-clause-beside g c = none-beside c.args.name.now (g.F.FileStore.seen c.args.store.now)

pub returns-in-Ok-take_step-clause-trace : goal.returns-in-Ok-take_step-clause-trace
returns-in-Ok-take_step-clause-trace g c =
    let seen = g.F.FileStore.seen in
    was_found c.args.name.now c.into_found.result c.in-Ok.reader c.take_step.new.reader (seen c.args.store.now) (seen c.take_step.new.store)
    c.in-Ok.ensures c.into_found.ensures (c.in-Ok-take_step.ensures.acts c.args.name.now) c.take_step.ensures.later

pub returns-in-Ok-take_step-clause-history : goal.returns-in-Ok-take_step-clause-history
returns-in-Ok-take_step-clause-history g c =
    let seen = g.F.FileStore.seen in
    c.all_calls_law.ensures c.args.name.now _ (seen c.args.store.now) (seen c.take_step.new.store)
    (was_found c.args.name.now c.into_found.result c.in-Ok.reader c.take_step.new.reader (seen c.args.store.now) (seen c.take_step.new.store)
    c.in-Ok.ensures c.into_found.ensures (c.in-Ok-take_step.ensures.acts c.args.name.now) c.take_step.ensures.later)

pub returns-in-Ok-take_step-clause-beside : goal.returns-in-Ok-take_step-clause-beside
returns-in-Ok-take_step-clause-beside g c =
    let seen = g.F.FileStore.seen in
    found-beside c.past_law.ensures c.consumers_law.ensures.counts c.consumers_law.ensures.frames c.args.name.now c.into_found.result c.in-Ok.reader
    c.take_step.new.reader (seen c.args.store.now) (seen c.take_step.new.store) c.in-Ok.ensures c.into_found.ensures
    (c.in-Ok-take_step.ensures.acts c.args.name.now)

pub returns-in-Err-take_step-clause-trace : goal.returns-in-Err-take_step-clause-trace
returns-in-Err-take_step-clause-trace g c =
    let seen = g.F.FileStore.seen in
    was_refused c.args.name.now c.in-Err-take_step.refusal c.in-Ok.reader c.take_step.new.reader (seen c.args.store.now) (seen c.take_step.new.store)
    c.in-Ok.ensures (c.in-Err-take_step.ensures.acts c.args.name.now) c.take_step.ensures.later

pub returns-in-Err-take_step-clause-history : goal.returns-in-Err-take_step-clause-history
returns-in-Err-take_step-clause-history g c =
    let seen = g.F.FileStore.seen in
    c.all_calls_law.ensures c.args.name.now _ (seen c.args.store.now) (seen c.take_step.new.store)
    (was_refused c.args.name.now c.in-Err-take_step.refusal c.in-Ok.reader c.take_step.new.reader (seen c.args.store.now) (seen c.take_step.new.store)
    c.in-Ok.ensures (c.in-Err-take_step.ensures.acts c.args.name.now) c.take_step.ensures.later)

pub returns-in-Err-take_step-clause-beside : goal.returns-in-Err-take_step-clause-beside
returns-in-Err-take_step-clause-beside g c =
    let seen = g.F.FileStore.seen in
    refused-beside c.past_law.ensures c.args.name.now c.in-Err-take_step.refusal (seen c.args.store.now) (seen c.take_step.new.store)
    c.in-Err-take_step.ensures.tells
