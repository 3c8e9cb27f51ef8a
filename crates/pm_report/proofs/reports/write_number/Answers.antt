use Rattle.std.proofs.Common.{codes, decimal, refl, subst, List, ℕ, ◌∙◌}
use Rattle.std.proofs.lemmas.Result.{err_from_is_err_and}
use Rattle.pm_io.specs.LineBuffer.{line_at, Writes}
use Rattle.pm_report.specs.Escaping.{escaped}
use Rattle.pm_report.specs.Report.{blank_number}
use Rattle.pm_report.proofs.Lines.{Broke-one, Writes-both}
use Rattle.pm_report.proofs.reports.write_number.Goals as goal

pub returns-in_err-write_escaped : goal.returns-in_err-write_escaped
returns-in_err-write_escaped g c =
    let p = err_from_is_err_and c.from_residual.result c.from_residual.ensures.1 in
    rw (p.1)
    (Broke-one g.V.Sink.seen (codes " ") (decimal c.args.number) (blank_number c.args.number) (line_at c.args.line.now c.args.err.now)
    (line_at c.write_escaped.new.line c.write_escaped.new.err) refl c.in_err-write_escaped.ensures)

pub returns : goal.returns
returns g c =
    let mid = line_at c.write_escaped.new.line c.write_escaped.new.err in
    let last = line_at c.write_escaped-2.new.line c.write_escaped-2.new.err in
    Writes-both g.V.Sink.seen (codes " ") (decimal c.args.number) (blank_number c.args.number) (line_at c.args.line.now c.args.err.now) mid last
    c.write_escaped-2.result refl c.in_ok-write_escaped.ensures
    (subst (λ (t : List ℕ). Writes g.V.Sink.seen (escaped t) mid last c.write_escaped-2.result) (c.as_bytes.ensures.value ∙ c.format.ensures.text) c.write_escaped-2.ensures)
