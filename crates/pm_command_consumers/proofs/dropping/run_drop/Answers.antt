use Rattle.std.specs.Result.{result_err}
use Rattle.std.proofs.lemmas.Result.{err_from_is_err_and}
use Rattle.pm_command_consumers.proofs.DropLaws.{printed_removed, refused_removed}
use Rattle.pm_command_consumers.proofs.dropping.run_drop.Goals as goal

pub returns-in_err-was_there-clause-removed : goal.returns-in_err-was_there-clause-removed
returns-in_err-was_there-clause-removed g c =
    let p = err_from_is_err_and c.from_residual.result c.from_residual.ensures.1 in
    rw (p.1, p.2)
    (refused_removed c.args.name.now c.in_err-was_there.field-0.0 (g.W.Sink.seen c.args.out.now) (g.F.FileStore.seen c.args.store.now)
    (g.F.FileStore.seen c.remove_file.new.store) c.in_err-was_there.ensures.trace c.in_err-was_there.ensures.beside
    c.in_err-was_there.ensures.history)

pub returns-clause-removed : goal.returns-clause-removed
returns-clause-removed g c =
    printed_removed c.args.name.now c.in_ok-was_there.was_there c.told_text.result.now (g.W.Sink.seen c.args.out.now) (g.W.Sink.seen c.print.new.out)
    (g.F.FileStore.seen c.args.store.now) (g.F.FileStore.seen c.remove_file.new.store) (result_err c.print.result) c.told_text.ensures
    c.in_ok-was_there.ensures.trace c.in_ok-was_there.ensures.beside c.in_ok-was_there.ensures.history c.print.ensures.prints
