use Rattle.std.specs.Result.{result_err}
use Rattle.std.proofs.lemmas.Result.{err_from_is_err_and}
use Rattle.pm_command_consume.proofs.OpenLemmas.{schema_refused}
use Rattle.pm_command_consume.proofs.PieceLemmas.{schema_shown}
use Rattle.pm_command_consume.proofs.consume.run_consume.Goals as goal

pub returns-in_err-schema-clause-consumed : goal.returns-in_err-schema-clause-consumed
returns-in_err-schema-clause-consumed g c =
    let p = err_from_is_err_and c.from_residual.result c.from_residual.ensures.1 in
    rw (p.1, p.2)
    (schema_shown c.args.consuming.now c.in_err-schema.field-0.0 (g.W.Sink.seen c.args.out.now) (g.F.FileStore.seen c.args.store.now)
    (g.F.FileStore.seen c.followed_schema.new.store) c.in_err-schema.ensures.trace)

pub returns-in_err-schema-clause-history : goal.returns-in_err-schema-clause-history
returns-in_err-schema-clause-history g c =
    let p = err_from_is_err_and c.from_residual.result c.from_residual.ensures.1 in
    rw (p.1, p.2)
    (c.consume_law.ensures c.args.consuming.now (g.W.Sink.seen c.args.out.now) (g.W.Sink.seen c.args.out.now) (g.F.FileStore.seen c.args.store.now)
    (g.F.FileStore.seen c.followed_schema.new.store) _ c.requires
    (schema_shown c.args.consuming.now c.in_err-schema.field-0.0 (g.W.Sink.seen c.args.out.now) (g.F.FileStore.seen c.args.store.now)
    (g.F.FileStore.seen c.followed_schema.new.store) c.in_err-schema.ensures.trace))

pub returns-clause-consumed : goal.returns-clause-consumed
returns-clause-consumed g c = c.consume_table.ensures.consumed (g.F.FileStore.seen c.args.store.now) c.in_ok-schema.ensures.trace

pub returns-clause-history : goal.returns-clause-history
returns-clause-history g c =
    let store = g.F.FileStore.seen c.args.store.now in
    c.consume_law.ensures c.args.consuming.now (g.W.Sink.seen c.args.out.now) (g.W.Sink.seen c.consume_table.new.out) store
    (g.F.FileStore.seen c.consume_table.new.store) (result_err c.consume_table.result) c.requires
    (c.consume_table.ensures.consumed store c.in_ok-schema.ensures.trace)

pub returns-in_err-schema-clause-beside : goal.returns-in_err-schema-clause-beside
returns-in_err-schema-clause-beside g c = λ me.
    let p = err_from_is_err_and c.from_residual.result c.from_residual.ensures.1 in
    rw (p.1, p.2)
    (schema_refused me c.args.consuming.now c.in_err-schema.field-0.0 (g.W.Sink.seen c.args.out.now) (g.F.FileStore.seen c.args.store.now)
    (g.F.FileStore.seen c.followed_schema.new.store) (c.in_err-schema.ensures.refused c.args.consuming.now.from))

pub returns-clause-beside : goal.returns-clause-beside
returns-clause-beside g c = λ me.
    c.consume_table.ensures.beside me (g.F.FileStore.seen c.args.store.now) c.in_ok-schema.ensures.trace c.in_ok-schema.ensures.beside
