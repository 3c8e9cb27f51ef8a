use Rattle.std.proofs.Common.{take}
use Rattle.std.specs.List.{flat_map}
use Rattle.pm_io.specs.LineBuffer.{line_at, Wrote}
use Rattle.pm_report.specs.Escaping.{printed}
use Rattle.pm_report.proofs.escaping.write_escaped.Given as goal

abbrev pub invariant-loop-byte : goal.invariant-loop-byte
invariant-loop-byte g l =
    Wrote g.V.Sink.seen (flat_map printed (take l.byte-index l.text)) (line_at l.fn.line l.fn.err) (line_at l.line l.err)
