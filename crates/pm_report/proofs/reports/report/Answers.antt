use Rattle.std.proofs.lemmas.Result.{on_err_weaker}
use Rattle.pm_io.specs.LineBuffer.{line_at}
use Rattle.pm_io.proofs.LineLemmas.{Wrote-part}
use Rattle.pm_report.specs.Report.{report_text}
use Rattle.pm_report.proofs.reports.report.Goals as goal

-- what was held was not taken whole
pub returns-clause-prefix : goal.returns-clause-prefix
returns-clause-prefix g c =
    on_err_weaker c.flush.result
    (Wrote-part g.V.Sink.seen (report_text c.args.refusal.now) (line_at c.new-line.result c.args.err.now) (line_at c.write_line.new.line c.write_line.new.err)
    (g.V.Sink.seen c.flush.new.sink).taken c.new-line.ensures c.in_ok-write_line.ensures)
    c.flush.ensures.prefix
