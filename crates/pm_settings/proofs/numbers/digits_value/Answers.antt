use Rattle.std.proofs.Common.{get_or, refl}
use Rattle.pm_settings.proofs.NumberLemmas.{digits_value-next}
use Rattle.pm_settings.proofs.numbers.digits_value.Goals as goal

pub loop-digit-preserved : goal.loop-digit-preserved
loop-digit-preserved c =
    let digits = c.args.digits.now in
    let i = c.loop-digit.digit-index in
    let here = digits_value-next digits i c.loop-digit.total (get_or digits i 0) c.loop-digit-test.true refl (c.requires i 0 c.loop-digit-test.true) c.loop-digit.invariant in
    rw (c.saturating_add-total.ensures, c.saturating_mul.ensures, c.from.ensures) here
