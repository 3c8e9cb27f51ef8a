use Rattle.std.proofs.Common.{sym}
use Rattle.pm_snapshot.proofs.Decimals.{naturals, Spells-bytes, Spells-shown, Spells-other, Spells-unparsed, parses_natural}
use Rattle.pm_snapshot.proofs.decimal.natural_in.Goals as goal

pub returns-in_default : goal.returns-in_default
returns-in_default c = sym (Spells-bytes naturals c.args.text.now c.in_default.ensures.cases.0)

pub returns-in-Ok-parse : goal.returns-in-Ok-parse
returns-in-Ok-parse c =
    let digits = c.in-Ok.digits.now in
    sym (Spells-shown naturals c.args.text.now digits c.format.result.now c.parse.result c.in-Ok-parse.n
    (parses_natural digits c.parse.result c.parse.ensures.value.0) c.in-Ok.ensures.cases.0 c.in-Ok-parse.is
    c.format.ensures.text (sym c.if-eq.ensures))

pub returns-in_default-parse : goal.returns-in_default-parse
returns-in_default-parse c =
    let digits = c.in-Ok.digits.now in
    sym (Spells-other naturals c.args.text.now digits c.format.result.now c.parse.result c.in-Ok-parse.n
    (parses_natural digits c.parse.result c.parse.ensures.value.0) c.in-Ok.ensures.cases.0 c.in-Ok-parse.is
    c.format.ensures.text (sym c.if-eq.ensures))

pub returns-in_default-parse-2 : goal.returns-in_default-parse-2
returns-in_default-parse-2 c =
    let digits = c.in-Ok.digits.now in
    sym (Spells-unparsed naturals c.args.text.now digits c.parse.result c.in_default-parse.field-0
    (parses_natural digits c.parse.result c.parse.ensures.value.0) c.in-Ok.ensures.cases.0 c.in_default-parse.is)
