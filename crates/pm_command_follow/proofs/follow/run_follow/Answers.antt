use Rattle.std.proofs.Common.{refl}
use Rattle.std.specs.Result.{result_err}
use Rattle.std.proofs.lemmas.Result.{err_from_is_err_and}
use Rattle.pm_command_follow.specs.Follow.{refuses}
use Rattle.pm_command_follow.proofs.PieceLemmas.{schema_shown}
use Rattle.pm_command_follow.proofs.follow.run_follow.Goals as goal

pub returns-in_err-schema-clause-followed : goal.returns-in_err-schema-clause-followed
returns-in_err-schema-clause-followed g c =
    let p = err_from_is_err_and c.from_residual.result c.from_residual.ensures.1 in
    rw (p.1, p.2) (
      schema_shown c.args.from c.args.full c.in_err-schema.field-0.0 (g.W.Sink.seen c.args.out.now) (g.F.FileStore.seen c.args.store.now)
          (g.F.FileStore.seen c.followed_schema.new.store) c.in_err-schema.ensures.trace,
      refuses c.in_err-schema.field-0.0 refl (c.in_err-schema.ensures.refused c.args.from),
    )

pub returns-in_err-schema-clause-history : goal.returns-in_err-schema-clause-history
returns-in_err-schema-clause-history g c =
    let p = err_from_is_err_and c.from_residual.result c.from_residual.ensures.1 in
    rw (p.1, p.2)
    (c.follow_law.ensures c.args.from c.args.full (g.W.Sink.seen c.args.out.now) (g.W.Sink.seen c.args.out.now) (g.F.FileStore.seen c.args.store.now)
    (g.F.FileStore.seen c.followed_schema.new.store) _ (
      schema_shown c.args.from c.args.full c.in_err-schema.field-0.0 (g.W.Sink.seen c.args.out.now) (g.F.FileStore.seen c.args.store.now)
          (g.F.FileStore.seen c.followed_schema.new.store) c.in_err-schema.ensures.trace,
      refuses c.in_err-schema.field-0.0 refl (c.in_err-schema.ensures.refused c.args.from),
    ))

pub returns-clause-followed : goal.returns-clause-followed
returns-clause-followed g c =
    let store = g.F.FileStore.seen c.args.store.now in (
      c.follow_table.ensures.followed store c.in_ok-schema.ensures.trace,
      c.follow_table.ensures.beside store c.in_ok-schema.ensures.trace c.in_ok-schema.ensures.beside,
    )

pub returns-clause-history : goal.returns-clause-history
returns-clause-history g c =
    let store = g.F.FileStore.seen c.args.store.now in
    c.follow_law.ensures c.args.from c.args.full (g.W.Sink.seen c.args.out.now) (g.W.Sink.seen c.follow_table.new.out) store
    (g.F.FileStore.seen c.follow_table.new.store) (result_err c.follow_table.result) (
      c.follow_table.ensures.followed store c.in_ok-schema.ensures.trace,
      c.follow_table.ensures.beside store c.in_ok-schema.ensures.trace c.in_ok-schema.ensures.beside,
    )
