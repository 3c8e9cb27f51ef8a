use Rattle.std.proofs.lemmas.Result.{err_from_is_err_and}
use Rattle.pm_command_consumers.proofs.DropLaws.{read_beside, read_keeps, read_refused, removed_beside, removed_keeps, removed_trace}
use Rattle.pm_command_consumers.proofs.dropping.remove_file.Goals as goal

pub returns-in_err-schema-clause-trace : goal.returns-in_err-schema-clause-trace
returns-in_err-schema-clause-trace g c =
    let p = err_from_is_err_and c.from_residual.result c.from_residual.ensures.1 in
    rw (p.1, p.2)
    (read_refused c.args.name.now c.in_err-schema.field-0.0 (g.F.FileStore.seen c.args.store.now) (g.F.FileStore.seen c.read_table_schema.new.store)
    c.in_err-schema.ensures.trace)

pub returns-in_err-schema-clause-beside : goal.returns-in_err-schema-clause-beside
returns-in_err-schema-clause-beside g c =
    let p = err_from_is_err_and c.from_residual.result c.from_residual.ensures.1 in
    rw (p.1, p.2)
    (read_beside c.args.name.now c.in_err-schema.field-0.0 (g.F.FileStore.seen c.args.store.now) (g.F.FileStore.seen c.read_table_schema.new.store)
    c.in_err-schema.ensures.refused)

pub returns-in_err-schema-clause-history : goal.returns-in_err-schema-clause-history
returns-in_err-schema-clause-history g c =
    let p = err_from_is_err_and c.from_residual.result c.from_residual.ensures.1 in
    rw (p.1, p.2)
    (read_keeps c.args.name.now c.in_err-schema.field-0.0 (g.F.FileStore.seen c.args.store.now) (g.F.FileStore.seen c.read_table_schema.new.store)
    c.in_err-schema.ensures.history)

pub returns-clause-trace : goal.returns-clause-trace
returns-clause-trace g c =
    removed_trace c.args.name.now c.in_ok-schema.schema c.drop_consumer.result (g.F.FileStore.seen c.args.store.now) (g.F.FileStore.seen c.read_table_schema.new.store)
    (g.F.FileStore.seen c.drop_consumer.new.store) c.in_ok-schema.ensures.declared c.in_ok-schema.ensures.trace c.drop_consumer.ensures.trace

pub returns-clause-beside : goal.returns-clause-beside
returns-clause-beside g c =
    removed_beside c.args.name.now c.in_ok-schema.schema c.drop_consumer.result (g.F.FileStore.seen c.args.store.now) (g.F.FileStore.seen c.read_table_schema.new.store)
    (g.F.FileStore.seen c.drop_consumer.new.store) c.in_ok-schema.ensures.declared c.in_ok-schema.ensures.beside c.drop_consumer.ensures.beside

pub returns-clause-history : goal.returns-clause-history
returns-clause-history g c =
    removed_keeps c.args.name.now c.in_ok-schema.schema c.drop_consumer.result (g.F.FileStore.seen c.args.store.now) (g.F.FileStore.seen c.read_table_schema.new.store)
    (g.F.FileStore.seen c.drop_consumer.new.store) c.in_ok-schema.ensures.declared c.in_ok-schema.ensures.trace c.in_ok-schema.ensures.history
    c.drop_consumer.ensures.trace c.drop_consumer.ensures.alone
