use Rattle.std.proofs.Common.{◌≡◌, Some, sym, ap, ◌∙◌}
use Rattle.std.proofs.lemmas.Int.{to_z-of_z}
use Rattle.std.specs.Fmt.{signed_decimal}
use Rattle.std.specs.Int.{w64}
use mir.Val.{of_z, to_z}
use Rattle.pm_snapshot.proofs.Decimals.{integers, Spells-bytes, Spells-shown, Spells-other, Spells-unparsed, parses_integer}
use Rattle.pm_snapshot.proofs.decimal.integer_in.Goals as goal

pub returns-in_default : goal.returns-in_default
returns-in_default c = sym (Spells-bytes integers c.args.text.now c.in_default.ensures.cases.0)

pub returns-in-Ok-parse : goal.returns-in-Ok-parse
returns-in-Ok-parse c =
    let digits = c.in-Ok.digits.now in
    let n = c.in-Ok-parse.z in
    let parses = parses_integer digits c.parse.result c.parse.ensures.value.0 in
    let back : to_z w64 (of_z w64 n) ≡ n = to_z-of_z w64 n (parses.fits n c.in-Ok-parse.is) in
    ap Some back ∙ sym (Spells-shown integers c.args.text.now digits c.format.result.now c.parse.result n parses
    c.in-Ok.ensures.cases.0 c.in-Ok-parse.is (c.format.ensures.text
    ∙ ap signed_decimal back) (sym c.if-eq.ensures))

pub returns-in_default-parse : goal.returns-in_default-parse
returns-in_default-parse c =
    let digits = c.in-Ok.digits.now in
    let n = c.in-Ok-parse.z in
    let parses = parses_integer digits c.parse.result c.parse.ensures.value.0 in
    let back : to_z w64 (of_z w64 n) ≡ n = to_z-of_z w64 n (parses.fits n c.in-Ok-parse.is) in
    sym (Spells-other integers c.args.text.now digits c.format.result.now c.parse.result n parses
    c.in-Ok.ensures.cases.0 c.in-Ok-parse.is (c.format.ensures.text
    ∙ ap signed_decimal back) (sym c.if-eq.ensures))

pub returns-in_default-parse-2 : goal.returns-in_default-parse-2
returns-in_default-parse-2 c =
    let digits = c.in-Ok.digits.now in
    sym (Spells-unparsed integers c.args.text.now digits c.parse.result c.in_default-parse.field-0
    (parses_integer digits c.parse.result c.parse.ensures.value.0) c.in-Ok.ensures.cases.0 c.in_default-parse.is)
