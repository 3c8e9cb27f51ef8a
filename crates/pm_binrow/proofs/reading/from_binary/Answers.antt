use Rattle.std.proofs.Common.{◌≡◌, ℕ, ◌<◌, get_or, Some, sym, ap, subst, ◌∙◌, rules}
use Rattle.std.proofs.lemmas.Result.{err_from_is_err_and}
use Rattle.pm_values.specs.Order.{Values}
use Rattle.pm_binrow.specs.Row.{IsRow, IsShort, row_bytes}
use Rattle.pm_binrow.specs.Reading.{YieldsNone, row_in, whole_in}
use Rattle.pm_binrow.proofs.Rows.{never_bad, row_again, row_in-bytes, row_read}
use Rattle.pm_binrow.proofs.Steps.{some_is}
use Rattle.pm_binrow.proofs.reading.from_binary.Goals as goal

pub returns-in_err-read_row-clause-value : goal.returns-in_err-read_row-clause-value
returns-in_err-read_row-clause-value c =
    let each : (i : ℕ) → get_or c.args.bytes.now i 0 < 256 = search rules in
    let p = err_from_is_err_and c.from_residual.result c.from_residual.ensures.1 in
    rw (p.1, p.2) (subst (YieldsNone c.in_err-read_row.field-0.0) (sym (row_in-bytes c.args.types.now c.args.bytes.now each)) c.in_err-read_row.ensures)

pub returns-in_err-read_row-clause-only : goal.returns-in_err-read_row-clause-only
returns-in_err-read_row-clause-only c = λ row h short same.
    let each : (i : ℕ) → get_or c.args.bytes.now i 0 < 256 = search rules in
    let p = err_from_is_err_and c.from_residual.result c.from_residual.ensures.1 in
    let read : row_in c.args.types.now c.args.bytes.now ≡ Some row = ap (row_in c.args.types.now) same ∙ row_again c.args.types.now row h short in
    let whole : whole_in c.args.types.now c.args.bytes.now ≡ Some row = sym (row_in-bytes c.args.types.now c.args.bytes.now each) ∙ read in
    rw (p.1, p.2) (never_bad c.in_err-read_row.field-0.0 (whole_in c.args.types.now c.args.bytes.now) row c.in_err-read_row.ensures whole)

pub returns-clause-value : goal.returns-clause-value
returns-clause-value c =
    let each : (i : ℕ) → get_or c.args.bytes.now i 0 < 256 = search rules in
    row_in-bytes c.args.types.now c.args.bytes.now each ∙ c.in_ok-read_row.ensures ∙ ap Some (sym c.new.ensures)

pub returns-clause-found : goal.returns-clause-found
returns-clause-found c =
    let each : (i : ℕ) → get_or c.args.bytes.now i 0 < 256 = search rules in
    let P : Values → Type 0 = λ row. IsRow c.args.types.now row × IsShort c.args.types.now row × (c.args.bytes.now ≡ row_bytes c.args.types.now row) in
    let read = row_in-bytes c.args.types.now c.args.bytes.now each ∙ c.in_ok-read_row.ensures in
    subst P (sym c.new.ensures) (row_read c.args.types.now c.args.bytes.now c.in_ok-read_row.field-0.items read)

pub returns-clause-only : goal.returns-clause-only
returns-clause-only c = λ row h short same.
    let each : (i : ℕ) → get_or c.args.bytes.now i 0 < 256 = search rules in
    let read : row_in c.args.types.now c.args.bytes.now ≡ Some row = ap (row_in c.args.types.now) same ∙ row_again c.args.types.now row h short in
    c.new.ensures ∙ some_is (sym c.in_ok-read_row.ensures ∙ sym (row_in-bytes c.args.types.now c.args.bytes.now each) ∙ read)
