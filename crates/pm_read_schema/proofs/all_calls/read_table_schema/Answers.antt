use Rattle.pm_read_schema.proofs.AllCallsLemmas.{read_history}
use Rattle.pm_read_schema.proofs.all_calls.read_table_schema.Goals as goal

pub returns-clause-history : goal.returns-clause-history
returns-clause-history g c =
    let seen = g.F.FileStore.seen in
    read_history c.make_calls.result (seen c.args.store.now) (seen c.make_calls.new.store) c.make_calls.ensures.trace
