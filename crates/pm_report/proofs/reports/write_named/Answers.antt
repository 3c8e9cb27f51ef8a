use Rattle.std.proofs.Common.{◌++◌, ap, List, ℕ, ◌∙◌}
use Rattle.std.proofs.lemmas.Result.{err_from_is_err_and}
use Rattle.pm_io.specs.LineBuffer.{line_at}
use Rattle.pm_report.specs.Report.{named}
use Rattle.pm_report.proofs.Lines.{Broke-one, Writes-both}
use Rattle.pm_report.proofs.reports.write_named.Goals as goal

pub returns-in_err-write_escaped : goal.returns-in_err-write_escaped
returns-in_err-write_escaped g c =
    let p = err_from_is_err_and c.from_residual.result c.from_residual.ensures.1 in
    let name = c.args.name.now in
    rw (p.1)
    (Broke-one g.V.Sink.seen c.as_bytes.result.now name (named name) (line_at c.args.line.now c.args.err.now)
    (line_at c.write_escaped.new.line c.write_escaped.new.err) (ap (λ (l : List ℕ). l ++ name) c.as_bytes.ensures.value ∙ c.blank_before.ensures)
    c.in_err-write_escaped.ensures)

pub returns : goal.returns
returns g c =
    let name = c.args.name.now in
    let mid = line_at c.write_escaped.new.line c.write_escaped.new.err in
    let last = line_at c.write_escaped-2.new.line c.write_escaped-2.new.err in
    Writes-both g.V.Sink.seen c.as_bytes.result.now c.as_bytes-2.result.now (named name) (line_at c.args.line.now c.args.err.now) mid last
    c.write_escaped-2.result
    (ap (λ (l : List ℕ). l ++ c.as_bytes-2.result.now) c.as_bytes.ensures.value ∙ ap (λ (l : List ℕ). c.blank_before.result.now ++ l) c.as_bytes-2.ensures.value
    ∙ c.blank_before.ensures)
    c.in_ok-write_escaped.ensures c.write_escaped-2.ensures
