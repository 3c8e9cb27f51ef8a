use Rattle.std.proofs.Common.{arith}
use Rattle.std.proofs.lemmas.Result.{err_from_is_err_and}
use Rattle.pm_io.specs.LineBuffer.{line_at}
use Rattle.pm_io.proofs.LineLemmas.{Wrote-nothing}
use Rattle.pm_report.specs.Escaping.{escaped}
use Rattle.pm_report.specs.Report.{blank_number}
use Rattle.pm_report.proofs.Lines.{Broke-each, Wrote-each, Wrote-item}
use Rattle.pm_report.proofs.reports.write_numbers.Goals as goal

pub loop-n-init : goal.loop-n-init
loop-n-init g c = Wrote-nothing g.V.Sink.seen (line_at c.args.line.now c.args.err.now)

pub loop-n-preserved : goal.loop-n-preserved
loop-n-preserved g c =
    Wrote-item g.V.Sink.seen (λ x. escaped (blank_number x)) c.args.numbers.now c.loop-n.n-index 0 (line_at c.args.line.now c.args.err.now)
    (line_at c.loop-n.line c.loop-n.err) (line_at c.write_number.new.line c.write_number.new.err) (omega arith) c.loop-n.invariant c.in_ok-write_number.ensures

pub returns-in_err-write_number : goal.returns-in_err-write_number
returns-in_err-write_number g c =
    let p = err_from_is_err_and c.from_residual.result c.from_residual.ensures.1 in
    rw (p.1)
    (Broke-each g.V.Sink.seen blank_number c.args.numbers.now c.loop-n.n-index 0 (line_at c.args.line.now c.args.err.now)
    (line_at c.loop-n.line c.loop-n.err) (line_at c.write_number.new.line c.write_number.new.err) (omega arith) c.loop-n.invariant c.in_err-write_number.ensures)

pub returns : goal.returns
returns g c =
    Wrote-each g.V.Sink.seen blank_number c.args.numbers.now c.loop-n.n-index (line_at c.args.line.now c.args.err.now)
    (line_at c.loop-n.line c.loop-n.err) (omega arith) c.loop-n.invariant
