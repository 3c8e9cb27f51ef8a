use Rattle.std.proofs.Common.{take}
use Rattle.std.specs.List.{flat_map}
use Rattle.pm_io.specs.LineBuffer.{line_at, Wrote}
use Rattle.pm_report.specs.Escaping.{escaped}
use Rattle.pm_report.specs.Pieces.{piece_text}
use Rattle.pm_report.proofs.reports.write_pieces.Given as goal

abbrev pub invariant-loop-piece : goal.invariant-loop-piece
invariant-loop-piece g l =
    Wrote g.V.Sink.seen (flat_map (λ x. escaped (piece_text x)) (take l.piece-index l.pieces)) (line_at l.fn.line l.fn.err) (line_at l.line l.err)
