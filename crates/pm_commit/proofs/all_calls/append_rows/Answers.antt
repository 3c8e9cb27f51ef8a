use Rattle.pm_commit.proofs.AllCallsLemmas.{appended-history, first-traced, went_on}
use Rattle.pm_commit.proofs.all_calls.append_rows.Goals as goal

pub returns-clause-trace : goal.returns-clause-trace
returns-clause-trace g c = λ s own first is has.
    let seen = g.F.FileStore.seen in
    went_on s own c.make_calls.result first (seen c.args.store.now) (seen c.make_calls.new.store) has
    (c.make_calls.ensures.trace s own (seen c.args.store.now) (first-traced s own c.args.committer (seen c.args.store.now) is))

pub returns-clause-history : goal.returns-clause-history
returns-clause-history g c = λ s own first is has.
    let seen = g.F.FileStore.seen in
    appended-history c.settled_law.ensures.all s own c.args.committer c.make_calls.result first (seen c.args.store.now) (seen c.make_calls.new.store) is c.known.ensures has
    (c.make_calls.ensures.trace s own (seen c.args.store.now) (first-traced s own c.args.committer (seen c.args.store.now) is)) c.make_calls.ensures.later
    c.make_calls.ensures.alone
