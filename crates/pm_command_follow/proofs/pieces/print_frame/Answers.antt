use Rattle.std.specs.Result.{result_err}
use Rattle.std.proofs.lemmas.Result.{err_from_is_err_and}
use Rattle.pm_read_frame.specs.AllCalls.{DidFrame}
use Rattle.pm_command_follow.specs.Pieces.{LearnsFrame, RefusesFrame}
use Rattle.pm_command_follow.proofs.KnownLemmas.{piece_printed, piece_refused}
use Rattle.pm_command_follow.proofs.PieceLemmas.{printed, unprinted}
use Rattle.pm_command_follow.proofs.pieces.print_frame.Goals as goal

pub returns-in_err-text-clause-prints : goal.returns-in_err-text-clause-prints
returns-in_err-text-clause-prints g c =
    let p = err_from_is_err_and c.from_residual.result c.from_residual.ensures.1 in
    rw (p.1, p.2)
    (unprinted (DidFrame c.args.schema.now c.args.id) c.in_err-text.field-0.0 (g.W.Sink.seen c.args.out.now) (g.F.FileStore.seen c.args.store.now)
    (g.F.FileStore.seen c.read_frame.new.store) c.in_err-text.ensures.trace)

pub returns-clause-prints : goal.returns-clause-prints
returns-clause-prints g c =
    printed (DidFrame c.args.schema.now c.args.id) c.in_ok-text.text.items c.deref.result.now (g.W.Sink.seen c.args.out.now) (g.W.Sink.seen c.print.new.out)
    (g.F.FileStore.seen c.args.store.now) (g.F.FileStore.seen c.read_frame.new.store) (result_err c.print.result) c.deref.ensures.value
    c.in_ok-text.ensures.trace c.print.ensures.prints

pub returns-in_err-text-clause-beside : goal.returns-in_err-text-clause-beside
returns-in_err-text-clause-beside g c =
    let p = err_from_is_err_and c.from_residual.result c.from_residual.ensures.1 in
    rw (p.1, p.2)
    (piece_refused (LearnsFrame c.args.schema.now c.args.id) (RefusesFrame c.args.schema.now c.args.id) c.in_err-text.field-0.0 (g.W.Sink.seen c.args.out.now)
    (g.F.FileStore.seen c.args.store.now) (g.F.FileStore.seen c.read_frame.new.store) c.in_err-text.ensures.refused)

pub returns-clause-beside : goal.returns-clause-beside
returns-clause-beside g c =
    piece_printed (LearnsFrame c.args.schema.now c.args.id) (RefusesFrame c.args.schema.now c.args.id) c.in_ok-text.text.items c.deref.result.now (g.W.Sink.seen c.args.out.now)
    (g.W.Sink.seen c.print.new.out) (g.F.FileStore.seen c.args.store.now) (g.F.FileStore.seen c.read_frame.new.store) (result_err c.print.result) c.deref.ensures.value
    c.in_ok-text.ensures.beside c.print.ensures.prints
