use Rattle.std.proofs.Common.{arith}
use Rattle.std.proofs.lemmas.Result.{err_from_is_err_and}
use Rattle.pm_io.specs.LineBuffer.{line_at}
use Rattle.pm_io.proofs.LineLemmas.{Wrote-nothing}
use Rattle.pm_report.specs.Escaping.{printed}
use Rattle.pm_report.proofs.Lines.{Broke-item, Wrote-item, Wrote-items}
use Rattle.pm_report.proofs.escaping.write_escaped.Goals as goal

pub loop-byte-init : goal.loop-byte-init
loop-byte-init g c = Wrote-nothing g.V.Sink.seen (line_at c.args.line.now c.args.err.now)

pub loop-byte-preserved : goal.loop-byte-preserved
loop-byte-preserved g c =
    Wrote-item g.V.Sink.seen printed c.args.text.now c.loop-byte.byte-index 0 (line_at c.args.line.now c.args.err.now)
    (line_at c.loop-byte.line c.loop-byte.err) (line_at c.write_byte.new.line c.write_byte.new.err) (omega arith) c.loop-byte.invariant c.in_ok-write_byte.ensures

pub returns-in_err-write_byte : goal.returns-in_err-write_byte
returns-in_err-write_byte g c =
    let p = err_from_is_err_and c.from_residual.result c.from_residual.ensures.1 in
    rw (p.1)
    (Broke-item g.V.Sink.seen printed c.args.text.now c.loop-byte.byte-index 0 (line_at c.args.line.now c.args.err.now)
    (line_at c.loop-byte.line c.loop-byte.err) (line_at c.write_byte.new.line c.write_byte.new.err) (omega arith) c.loop-byte.invariant c.in_err-write_byte.ensures)

pub returns : goal.returns
returns g c =
    Wrote-items g.V.Sink.seen printed c.args.text.now c.loop-byte.byte-index (line_at c.args.line.now c.args.err.now)
    (line_at c.loop-byte.line c.loop-byte.err) (omega arith) c.loop-byte.invariant
