use Rattle.std.proofs.Common.{ℕ, ◌++◌, List, codes, decimal, refl, subst}
use Rattle.std.proofs.lemmas.Result.{err_from_is_err_and}
use Rattle.pm_io.specs.LineBuffer.{line_at, Broke, Wrote}
use Rattle.pm_io.proofs.LineLemmas.{Broke-first, Writes-then}
use Rattle.pm_report.specs.Escaping.{escaped}
use Rattle.pm_report.specs.Report.{code_of, message_of, refusal_text}
use Rattle.pm_report.proofs.Lines.{Broke-both, Broke-one, Wrote-both}
use Rattle.pm_report.proofs.reports.write_line.Goals as goal

-- what stands before the message
abbrev number : ℕ → List ℕ
number n = codes "E" ++ decimal n ++ codes " "

-- the number was not written whole
pub returns-in_err-write_pieces : goal.returns-in_err-write_pieces
returns-in_err-write_pieces g c =
    let p = err_from_is_err_and c.from_residual.result c.from_residual.ensures.1 in
    let seen = g.V.Sink.seen in
    let refusal = c.args.refusal.now in
    let first = line_at c.args.line.now c.args.err.now in
    let last = line_at c.write_pieces.new.line c.write_pieces.new.err in
    let own : Broke seen (escaped (number (code_of refusal))) first last =
    subst (λ (n : ℕ). Broke seen (escaped (number n)) first last) c.status-code.ensures c.in_err-write_pieces.ensures in
    rw (p.1)
    (Broke-first seen (escaped (refusal_text refusal)) (codes "\n") first last
    (Broke-one seen (number (code_of refusal)) (message_of refusal) (refusal_text refusal) first last refl own))

-- the message was not written whole
pub returns-in_err-write_pieces-2 : goal.returns-in_err-write_pieces-2
returns-in_err-write_pieces-2 g c =
    let p = err_from_is_err_and c.from_residual-in_err-write_pieces-2.result c.from_residual-in_err-write_pieces-2.ensures.1 in
    let seen = g.V.Sink.seen in
    let refusal = c.args.refusal.now in
    let first = line_at c.args.line.now c.args.err.now in
    let mid = line_at c.write_pieces.new.line c.write_pieces.new.err in
    let last = line_at c.write_pieces-2.new.line c.write_pieces-2.new.err in
    let begun : Wrote seen (escaped (number (code_of refusal))) first mid =
    subst (λ (n : ℕ). Wrote seen (escaped (number n)) first mid) c.status-code.ensures c.in_ok-write_pieces.ensures in
    let own : Broke seen (escaped (message_of refusal)) mid last =
    subst (λ (t : List ℕ). Broke seen (escaped t) mid last) c.message_pieces.ensures c.in_err-write_pieces-2.ensures in
    rw (p.1)
    (Broke-first seen (escaped (refusal_text refusal)) (codes "\n") first last
    (Broke-both seen (number (code_of refusal)) (message_of refusal) (refusal_text refusal) first mid last refl begun own))

-- the newline comes last
pub returns : goal.returns
returns g c =
    let seen = g.V.Sink.seen in
    let refusal = c.args.refusal.now in
    let first = line_at c.args.line.now c.args.err.now in
    let mid = line_at c.write_pieces.new.line c.write_pieces.new.err in
    let then = line_at c.write_pieces-2.new.line c.write_pieces-2.new.err in
    let last = line_at c.write.new.self c.write.new.sink in
    let begun : Wrote seen (escaped (number (code_of refusal))) first mid =
    subst (λ (n : ℕ). Wrote seen (escaped (number n)) first mid) c.status-code.ensures c.in_ok-write_pieces.ensures in
    let own : Wrote seen (escaped (message_of refusal)) mid then =
    subst (λ (t : List ℕ). Wrote seen (escaped t) mid then) c.message_pieces.ensures c.in_ok-write_pieces-2.ensures in
    Writes-then seen (escaped (refusal_text refusal)) (codes "\n") first then last c.write.result
    (Wrote-both seen (number (code_of refusal)) (message_of refusal) (refusal_text refusal) first mid then refl begun own)
    c.write.ensures
