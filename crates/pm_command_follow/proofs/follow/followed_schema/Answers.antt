use Rattle.std.proofs.lemmas.Result.{err_from_is_err_and}
use Rattle.pm_command_follow.proofs.PieceLemmas.{producer_shown, reader_shown, schema_read}
use Rattle.pm_command_follow.proofs.WhyLemmas.{why_producer, why_schema}
use Rattle.pm_command_follow.proofs.follow.followed_schema.Goals as goal

pub returns-in_err-schema-clause-trace : goal.returns-in_err-schema-clause-trace
returns-in_err-schema-clause-trace g c =
    let p = err_from_is_err_and c.from_residual.result c.from_residual.ensures.1 in
    rw (p.1, p.2)
    (reader_shown c.in_err-schema.field-0.0 (g.F.FileStore.seen c.args.store.now) (g.F.FileStore.seen c.read_table_schema.new.store) c.in_err-schema.ensures.trace)

pub returns-in-None-clause-trace : goal.returns-in-None-clause-trace
returns-in-None-clause-trace g c =
    producer_shown c.in_ok-schema.schema (g.F.FileStore.seen c.args.store.now) (g.F.FileStore.seen c.read_table_schema.new.store) c.in-None.is
    c.in_ok-schema.ensures.trace

pub returns-clause-trace : goal.returns-clause-trace
returns-clause-trace g c =
    schema_read c.in_ok-schema.schema (g.F.FileStore.seen c.args.store.now) (g.F.FileStore.seen c.read_table_schema.new.store) c.in_default.not-None
    c.in_ok-schema.ensures.declared c.in_ok-schema.ensures.trace

pub returns-in_err-schema-clause-refused : goal.returns-in_err-schema-clause-refused
returns-in_err-schema-clause-refused g c = λ from.
    let p = err_from_is_err_and c.from_residual.result c.from_residual.ensures.1 in
    rw (p.1, p.2)
    (why_schema from c.in_err-schema.field-0.0 (g.F.FileStore.seen c.args.store.now) (g.F.FileStore.seen c.read_table_schema.new.store) c.in_err-schema.ensures.trace
    c.in_err-schema.ensures.refused)

pub returns-in-None-clause-refused : goal.returns-in-None-clause-refused
returns-in-None-clause-refused g c = λ from.
    why_producer from c.in_ok-schema.schema (g.F.FileStore.seen c.args.store.now) (g.F.FileStore.seen c.read_table_schema.new.store) c.in-None.is
    c.in_ok-schema.ensures.beside
