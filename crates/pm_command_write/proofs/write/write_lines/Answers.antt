use Rattle.std.proofs.lemmas.Result.{err_from_is_err_and}
use Rattle.std.specs.Result.{result_err}
use Rattle.pm_command_write.proofs.WriteLaws.{printed_written, refused_written}
use Rattle.pm_command_write.proofs.write.write_lines.Goals as goal

pub returns-in_err-written-clause-written : goal.returns-in_err-written-clause-written
returns-in_err-written-clause-written g c =
    let p = err_from_is_err_and c.from_residual.result c.from_residual.ensures.1 in
    rw (p.1, p.2)
    (refused_written c.args.start.now c.args.writer c.args.lines c.in_err-written.field-0.0
    (g.W.Sink.seen c.args.out.now) (g.F.FileStore.seen c.args.store.now) (g.F.FileStore.seen c.append_lines.new.store)
    c.in_err-written.ensures.trace
    c.in_err-written.ensures.history)

pub returns-clause-written : goal.returns-clause-written
returns-clause-written g c =
    printed_written c.args.start.now c.args.writer c.args.lines c.in_ok-written.written (g.W.Sink.seen c.args.out.now)
    (g.W.Sink.seen c.print_written.new.out) (g.F.FileStore.seen c.args.store.now) (g.F.FileStore.seen c.append_lines.new.store)
    (result_err c.print_written.result) c.in_ok-written.ensures.trace c.in_ok-written.ensures.history c.print_written.ensures.prints
