use Rattle.pm_consumers.proofs.all_calls.list_consumers.Goals as goal

pub returns-clause-history : goal.returns-clause-history
returns-clause-history g c =
    let seen = g.F.FileStore.seen in
    c.all_calls_law.ensures c.make_calls.result (seen c.args.store.now) (seen c.make_calls.new.store) c.make_calls.ensures.trace
