use Rattle.std.proofs.Common.{subst, ◌<◌}
use Rattle.pm_read_latest.specs.Reader.{calls_left}
use Rattle.pm_read_latest.specs.declared.phase.Phase.{Phase}
use Rattle.pm_read_latest.proofs.BesideLemmas.{found-counted, found-learned, refused-learned}
use Rattle.pm_read_latest.proofs.AllCallsLemmas.{now_ready, was_found, was_refused}
use Rattle.pm_read_latest.proofs.all_calls.read_latest.Goals as goal

pub into_latest-requires : goal.into_latest-requires
into_latest-requires g c =
    now_ready c.take_step.new.reader c.in-Ok.ensures.reaches
    (subst (λ (m : Phase). calls_left c.take_step.new.reader < calls_left m) c.latest_reader-reader.ensures c.in-Ok.ensures.fewer)

pub returns-in-Ok-clause-trace : goal.returns-in-Ok-clause-trace
returns-in-Ok-clause-trace g c =
    let seen = g.F.FileStore.seen in
    was_found c.into_latest.result c.latest_reader-reader.result c.take_step.new.reader (seen c.args.store.now) (seen c.take_step.new.store)
    c.latest_reader-reader.ensures c.into_latest.ensures (c.in-Ok.ensures.acts tt) c.take_step.ensures.later

pub returns-in-Ok-clause-history : goal.returns-in-Ok-clause-history
returns-in-Ok-clause-history g c =
    let seen = g.F.FileStore.seen in
    c.all_calls_law.ensures _ (seen c.args.store.now) (seen c.take_step.new.store)
    (was_found c.into_latest.result c.latest_reader-reader.result c.take_step.new.reader (seen c.args.store.now) (seen c.take_step.new.store)
    c.latest_reader-reader.ensures c.into_latest.ensures (c.in-Ok.ensures.acts tt) c.take_step.ensures.later)

pub returns-in-Err-clause-trace : goal.returns-in-Err-clause-trace
returns-in-Err-clause-trace g c =
    let seen = g.F.FileStore.seen in
    was_refused c.in-Err.refusal c.latest_reader-reader.result c.take_step.new.reader (seen c.args.store.now) (seen c.take_step.new.store)
    c.latest_reader-reader.ensures (c.in-Err.ensures.acts tt) c.take_step.ensures.later

pub returns-in-Err-clause-history : goal.returns-in-Err-clause-history
returns-in-Err-clause-history g c =
    let seen = g.F.FileStore.seen in
    c.all_calls_law.ensures _ (seen c.args.store.now) (seen c.take_step.new.store)
    (was_refused c.in-Err.refusal c.latest_reader-reader.result c.take_step.new.reader (seen c.args.store.now) (seen c.take_step.new.store)
    c.latest_reader-reader.ensures (c.in-Err.ensures.acts tt) c.take_step.ensures.later)

pub returns-in-Ok-clause-beside : goal.returns-in-Ok-clause-beside
returns-in-Ok-clause-beside g c =
    let seen = g.F.FileStore.seen in
    found-learned c.past_law.ensures c.into_latest.result c.latest_reader-reader.result c.take_step.new.reader (seen c.args.store.now)
    (seen c.take_step.new.store) c.latest_reader-reader.ensures c.into_latest.ensures c.take_step.ensures.moves

pub returns-in-Ok-clause-counted : goal.returns-in-Ok-clause-counted
returns-in-Ok-clause-counted g c =
    let seen = g.F.FileStore.seen in
    found-counted c.past_law.ensures c.into_latest.result c.latest_reader-reader.result c.take_step.new.reader (seen c.args.store.now)
    (seen c.take_step.new.store) c.latest_reader-reader.ensures c.into_latest.ensures (c.in-Ok.ensures.acts tt)

pub returns-in-Err-clause-refused : goal.returns-in-Err-clause-refused
returns-in-Err-clause-refused g c =
    let seen = g.F.FileStore.seen in
    refused-learned c.past_law.ensures c.in-Err.refusal c.latest_reader-reader.result (seen c.args.store.now) (seen c.take_step.new.store)
    c.latest_reader-reader.ensures c.in-Err.ensures.tells
