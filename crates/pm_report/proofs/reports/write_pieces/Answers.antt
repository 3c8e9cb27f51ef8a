use Rattle.std.proofs.Common.{arith}
use Rattle.std.proofs.lemmas.Result.{err_from_is_err_and}
use Rattle.pm_io.specs.LineBuffer.{line_at}
use Rattle.pm_io.proofs.LineLemmas.{Wrote-nothing}
use Rattle.pm_report.specs.Escaping.{escaped}
use Rattle.pm_report.specs.Pieces.{piece_text}
use Rattle.pm_report.proofs.Lines.{Broke-each, Wrote-each, Wrote-item}
use Rattle.pm_report.proofs.reports.write_pieces.Goals as goal

pub loop-piece-init : goal.loop-piece-init
loop-piece-init g c = Wrote-nothing g.V.Sink.seen (line_at c.args.line.now c.args.err.now)

pub loop-piece-preserved : goal.loop-piece-preserved
loop-piece-preserved g c =
    Wrote-item g.V.Sink.seen (λ x. escaped (piece_text x)) c.args.pieces.now c.loop-piece.piece-index _ (line_at c.args.line.now c.args.err.now)
    (line_at c.loop-piece.line c.loop-piece.err) (line_at c.write_piece.new.line c.write_piece.new.err) (omega arith) c.loop-piece.invariant c.in_ok-write_piece.ensures

pub returns-in_err-write_piece : goal.returns-in_err-write_piece
returns-in_err-write_piece g c =
    let p = err_from_is_err_and c.from_residual.result c.from_residual.ensures.1 in
    rw (p.1)
    (Broke-each g.V.Sink.seen piece_text c.args.pieces.now c.loop-piece.piece-index _ (line_at c.args.line.now c.args.err.now)
    (line_at c.loop-piece.line c.loop-piece.err) (line_at c.write_piece.new.line c.write_piece.new.err) (omega arith) c.loop-piece.invariant c.in_err-write_piece.ensures)

pub returns : goal.returns
returns g c =
    Wrote-each g.V.Sink.seen piece_text c.args.pieces.now c.loop-piece.piece-index (line_at c.args.line.now c.args.err.now)
    (line_at c.loop-piece.line c.loop-piece.err) (omega arith) c.loop-piece.invariant
