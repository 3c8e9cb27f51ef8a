use Rattle.std.specs.Result.{result_err}
use Rattle.std.proofs.lemmas.Result.{err_from_is_err_and}
use Rattle.pm_command_expire.proofs.ExpireLaws.{printed_expired, refused_expired}
use Rattle.pm_command_expire.proofs.expire.run_expire.Goals as goal

pub returns-in_err-kept-clause-expired : goal.returns-in_err-kept-clause-expired
returns-in_err-kept-clause-expired g c =
    let p = err_from_is_err_and c.from_residual.result c.from_residual.ensures.1 in
    rw (p.1, p.2)
    (refused_expired c.args.start.now c.args.asked c.in_err-kept.field-0.0 (g.W.Sink.seen c.args.out.now) (g.F.FileStore.seen c.args.store.now)
    (g.F.FileStore.seen c.read_expire.new.store) c.in_err-kept.ensures.trace c.in_err-kept.ensures.beside c.in_err-kept.ensures.history)

pub returns-clause-expired : goal.returns-clause-expired
returns-clause-expired g c =
    printed_expired c.args.start.now c.args.asked c.in_ok-kept.kept (g.W.Sink.seen c.args.out.now) (g.W.Sink.seen c.print_kept.new.out)
    (g.F.FileStore.seen c.args.store.now) (g.F.FileStore.seen c.read_expire.new.store) (result_err c.print_kept.result) c.in_ok-kept.ensures.trace
    c.in_ok-kept.ensures.beside c.in_ok-kept.ensures.history c.print_kept.ensures.prints
