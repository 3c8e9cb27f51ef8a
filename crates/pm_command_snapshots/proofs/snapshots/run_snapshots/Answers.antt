use Rattle.std.proofs.Common.{◌∙◌}
use Rattle.std.specs.Result.{result_err}
use Rattle.std.proofs.lemmas.Result.{err_from_is_err_and}
use Rattle.pm_command_snapshots.proofs.SnapshotLaws.{refused_listed, memory_listed, printed_listed}
use Rattle.pm_command_snapshots.proofs.snapshots.run_snapshots.Goals as goal

pub returns-in_err-lister-clause-listed : goal.returns-in_err-lister-clause-listed
returns-in_err-lister-clause-listed g c =
    let p = err_from_is_err_and c.from_residual.result c.from_residual.ensures.1 in
    rw (p.1, p.2)
    (refused_listed c.in_err-lister.field-0.0 (g.W.Sink.seen c.args.out.now) (g.F.FileStore.seen c.args.store.now)
    (g.F.FileStore.seen c.list_all.new.store) c.in_err-lister.ensures.trace c.in_err-lister.ensures.beside c.in_err-lister.ensures.history)

pub returns-in_err-text-clause-listed : goal.returns-in_err-text-clause-listed
returns-in_err-text-clause-listed g c =
    let p = err_from_is_err_and c.from_residual-in_err-text.result c.from_residual-in_err-text.ensures.1 in
    rw (p.1, p.2)
    (memory_listed c.in_ok-lister.lister (g.W.Sink.seen c.args.out.now) (g.F.FileStore.seen c.args.store.now)
    (g.F.FileStore.seen c.list_all.new.store) c.in_ok-lister.ensures.trace c.in_ok-lister.ensures.beside c.in_ok-lister.ensures.history)

pub returns-clause-listed : goal.returns-clause-listed
returns-clause-listed g c =
    printed_listed c.in_ok-lister.lister c.deref.result.now (g.W.Sink.seen c.args.out.now) (g.W.Sink.seen c.print.new.out)
    (g.F.FileStore.seen c.args.store.now) (g.F.FileStore.seen c.list_all.new.store) (result_err c.print.result)
    (c.deref.ensures.value ∙ c.in_ok-text.ensures) c.in_ok-lister.ensures.trace c.in_ok-lister.ensures.beside
    c.in_ok-lister.ensures.history c.print.ensures.prints
