use Rattle.std.proofs.Common.{take}
use Rattle.std.specs.List.{flat_map}
use Rattle.pm_io.specs.LineBuffer.{line_at, Wrote}
use Rattle.pm_report.specs.Escaping.{escaped}
use Rattle.pm_report.specs.Report.{blank_number}
use Rattle.pm_report.proofs.reports.write_numbers.Given as goal

abbrev pub invariant-loop-n : goal.invariant-loop-n
invariant-loop-n g l =
    Wrote g.V.Sink.seen (flat_map (λ x. escaped (blank_number x)) (take l.n-index l.numbers)) (line_at l.fn.line l.fn.err) (line_at l.line l.err)
