use Rattle.std.proofs.lemmas.Result.{err_from_is_err_and}
use Rattle.pm_command_snapshots.proofs.SnapshotLaws.{read_refused, read_known, listed_known, listed_trace, read_keeps, listed_keeps}
use Rattle.pm_command_snapshots.proofs.snapshots.list_all.Goals as goal

pub returns-in_err-schema-clause-trace : goal.returns-in_err-schema-clause-trace
returns-in_err-schema-clause-trace g c =
    let p = err_from_is_err_and c.from_residual.result c.from_residual.ensures.1 in
    rw (p.1, p.2)
    (read_refused c.in_err-schema.field-0.0 (g.F.FileStore.seen c.args.store.now) (g.F.FileStore.seen c.read_table_schema.new.store)
    c.in_err-schema.ensures.trace)

pub returns-in_err-schema-clause-beside : goal.returns-in_err-schema-clause-beside
returns-in_err-schema-clause-beside g c =
    let p = err_from_is_err_and c.from_residual.result c.from_residual.ensures.1 in
    rw (p.1, p.2)
    (read_known c.in_err-schema.field-0.0 (g.F.FileStore.seen c.args.store.now) (g.F.FileStore.seen c.read_table_schema.new.store)
    c.in_err-schema.ensures.refused)

pub returns-in_err-schema-clause-history : goal.returns-in_err-schema-clause-history
returns-in_err-schema-clause-history g c =
    let p = err_from_is_err_and c.from_residual.result c.from_residual.ensures.1 in
    rw (p.1, p.2)
    (read_keeps c.in_err-schema.field-0.0 (g.F.FileStore.seen c.args.store.now) (g.F.FileStore.seen c.read_table_schema.new.store)
    c.in_err-schema.ensures.history)

pub returns-clause-trace : goal.returns-clause-trace
returns-clause-trace g c =
    listed_trace c.in_ok-schema.schema c.list_snapshots.result (g.F.FileStore.seen c.args.store.now)
    (g.F.FileStore.seen c.list_snapshots.new.store) c.in_ok-schema.ensures.declared
    (c.list_snapshots.ensures.trace (g.F.FileStore.seen c.args.store.now) c.in_ok-schema.ensures.trace)

pub returns-clause-history : goal.returns-clause-history
returns-clause-history g c =
    listed_keeps c.in_ok-schema.schema c.list_snapshots.result (g.F.FileStore.seen c.args.store.now)
    (g.F.FileStore.seen c.list_snapshots.new.store)
    (c.list_snapshots.ensures.history (g.F.FileStore.seen c.args.store.now) c.in_ok-schema.ensures.trace)

pub returns-clause-beside : goal.returns-clause-beside
returns-clause-beside g c =
    listed_known c.in_ok-schema.schema c.list_snapshots.result (g.F.FileStore.seen c.args.store.now) (g.F.FileStore.seen c.read_table_schema.new.store)
    (g.F.FileStore.seen c.list_snapshots.new.store) (c.list_snapshots.ensures.trace (g.F.FileStore.seen c.args.store.now) c.in_ok-schema.ensures.trace)
    c.in_ok-schema.ensures.beside c.list_snapshots.ensures.beside c.list_snapshots.ensures.refused
