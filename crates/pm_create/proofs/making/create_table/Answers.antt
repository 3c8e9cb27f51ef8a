use Rattle.pm_create.proofs.MakingLemmas.{made_history}
use Rattle.pm_create.proofs.making.create_table.Goals as goal

pub returns-clause-history : goal.returns-clause-history
returns-clause-history g c =
    let seen = g.F.FileStore.seen in
    made_history c.kept_law.ensures c.args.creator.table c.make_calls.ensures.is_creator.0 c.make_calls.result (seen c.args.store.now)
    (seen c.make_calls.new.store) c.make_calls.ensures.trace
