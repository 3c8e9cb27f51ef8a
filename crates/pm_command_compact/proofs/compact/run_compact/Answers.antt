use Rattle.std.specs.Result.{result_err}
use Rattle.std.proofs.lemmas.Result.{err_from_is_err_and}
use Rattle.pm_command_compact.proofs.CompactLaws.{printed_compacted, refused_compacted}
use Rattle.pm_command_compact.proofs.compact.run_compact.Goals as goal

pub returns-in_err-compacted-clause-compacted : goal.returns-in_err-compacted-clause-compacted
returns-in_err-compacted-clause-compacted g c =
    let p = err_from_is_err_and c.from_residual.result c.from_residual.ensures.1 in
    rw (p.1, p.2)
    (refused_compacted c.args.start.now c.args.full c.in_err-compacted.field-0.0 (g.W.Sink.seen c.args.out.now)
    (g.F.FileStore.seen c.args.store.now) (g.F.FileStore.seen c.compact_declared.new.store) c.in_err-compacted.ensures.trace
    c.in_err-compacted.ensures.history)

pub returns-clause-compacted : goal.returns-clause-compacted
returns-clause-compacted g c =
    printed_compacted c.args.start.now c.args.full c.in_ok-compacted.compacted (g.W.Sink.seen c.args.out.now)
    (g.W.Sink.seen c.print_compacted.new.out) (g.F.FileStore.seen c.args.store.now) (g.F.FileStore.seen c.compact_declared.new.store)
    (result_err c.print_compacted.result) c.in_ok-compacted.ensures.trace c.in_ok-compacted.ensures.history c.print_compacted.ensures.prints
