use Rattle.std.proofs.Common.{FitsSigned, ◌≡◌, ◌≤◌, ◌∙◌, ap, arith, pos, refl, to_z, w16, w32, w8}
use Rattle.std.proofs.lemmas.Bool.Decides.{nat_tests}
use Rattle.std.proofs.lemmas.Int.{to_z-of_z}
use Rattle.jiff_core.proofs.SignedLemmas.{signed_arith}
use Rattle.jiff_core.specs.Date.{epoch_day}
use Rattle.pm_value_text.proofs.DateLemmas.{date_number-jiff}
use Rattle.pm_value_text.proofs.date.number.Goals as goal

pub returns-in-Ok : goal.returns-in-Ok
returns-in-Ok c =
    let first : 1 ≤ c.args.year = omega arith in
    let y : to_z w16 c.args.year ≡ pos c.args.year = grind (arith, nat_tests) in
    let m : to_z w8 c.args.month ≡ pos c.args.month = grind (arith, nat_tests) in
    let d : to_z w8 c.args.day ≡ pos c.args.day = grind (arith, nat_tests) in
    let fits : FitsSigned w32 c.to_unix_epoch_day.result = omega (arith, signed_arith, c.to_unix_epoch_day.ensures.bound) in
    let number = date_number-jiff c.args.year c.args.month c.args.day c.in-Ok.date c.to_unix_epoch_day.result first
    (rw (y, m, d) at (c.in-Ok.ensures.succeeds.0 refl)) (rw (y, m, d) at c.in-Ok.ensures.value)
    (c.to_unix_epoch_day.ensures.value ∙ ap epoch_day c.to_plain.ensures) in
    rw (to_z-of_z w32 c.to_unix_epoch_day.result fits) number
