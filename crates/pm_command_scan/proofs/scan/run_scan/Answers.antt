use Rattle.std.specs.Result.{result_err}
use Rattle.std.proofs.lemmas.Result.{err_from_is_err_and}
use Rattle.pm_command_scan.proofs.ScanLaws.{printed_scanned, refused_scanned}
use Rattle.pm_command_scan.proofs.scan.run_scan.Goals as goal

pub returns-in_err-text-clause-scanned : goal.returns-in_err-text-clause-scanned
returns-in_err-text-clause-scanned g c =
    let p = err_from_is_err_and c.from_residual.result c.from_residual.ensures.1 in
    rw (p.1, p.2)
    (refused_scanned c.args.snapshot c.in_err-text.field-0.0 (g.W.Sink.seen c.args.out.now) (g.F.FileStore.seen c.args.store.now)
    (g.F.FileStore.seen c.read_scan.new.store) c.in_err-text.ensures.trace c.in_err-text.ensures.beside
    c.in_err-text.ensures.history)

pub returns-clause-scanned : goal.returns-clause-scanned
returns-clause-scanned g c =
    printed_scanned c.args.snapshot c.in_ok-text.text.items c.deref.result.now (g.W.Sink.seen c.args.out.now)
    (g.W.Sink.seen c.print.new.out) (g.F.FileStore.seen c.args.store.now) (g.F.FileStore.seen c.read_scan.new.store)
    (result_err c.print.result) c.deref.ensures.value
    c.in_ok-text.ensures.trace c.in_ok-text.ensures.beside c.in_ok-text.ensures.history c.print.ensures.prints
