use Rattle.std.proofs.Common.{FitsSigned, ℤ, ◌≡◌, ◌∙◌, arith, of_z, pos, refl, to_z, w16, w32, w64}
use Rattle.std.proofs.lemmas.Int.{to_z-of_z}
use Rattle.jiff_core.proofs.SignedLemmas.{signed_arith}
use Rattle.jiff_core.specs.Date.{epoch_day}
use Rattle.jiff_core.specs.declared.civil.date.Date.{Date}
use Rattle.pm_value_text.specs.Date.{IsDay, day_of_month, month_of, year_of}
use Rattle.pm_value_text.proofs.CivilLemmas.{date-parts}
use Rattle.pm_value_text.proofs.DateLemmas.{IsShort, parts-short}
use Rattle.pm_value_text.proofs.date.parts.Goals as goal

-- the parts of the date that jiff gives to a day number as it was passed
given : (date : Date) (day : ℤ) → IsDay day → epoch_day date ≡ to_z w64 (of_z w64 (to_z w32 (of_z w32 day)))
    → (date.year ≡ pos (year_of day)) × (date.month ≡ month_of day) × (date.day ≡ day_of_month day)
given date day range e =
    let narrow : FitsSigned w32 day = omega (arith, signed_arith) in
    let wide : FitsSigned w64 day = omega (arith, signed_arith) in
    let passed : to_z w64 (of_z w64 (to_z w32 (of_z w32 day))) ≡ day = rw (to_z-of_z w32 day narrow, to_z-of_z w64 day wide) refl in
    date-parts date day range (e ∙ passed)

-- its year fits the smaller type
year_fits : (year : ℤ) (day : ℤ) → IsDay day → year ≡ pos (year_of day) → FitsSigned w16 year
year_fits year day range e =
    let short : IsShort day = parts-short day range in
    rw e (omega (arith, signed_arith, short.year_in))

pub overflow_cast-result : goal.overflow_cast-result
overflow_cast-result c =
    let year = (given c.in-Ok.date c.args.day c.requires c.in-Ok.ensures.value).0 in
    let short : IsShort c.args.day = parts-short c.args.day c.requires in
    rw (to_z-of_z w16 c.in-Ok.date.year (year_fits c.in-Ok.date.year c.args.day c.requires year), year) (omega (arith, short.year_in))

pub returns-clause-year : goal.returns-clause-year
returns-clause-year c =
    let year = (given c.in-Ok.date c.args.day c.requires c.in-Ok.ensures.value).0 in
    rw (to_z-of_z w16 c.in-Ok.date.year (year_fits c.in-Ok.date.year c.args.day c.requires year), year) refl

pub returns-clause-month : goal.returns-clause-month
returns-clause-month c = (given c.in-Ok.date c.args.day c.requires c.in-Ok.ensures.value).1

pub returns-clause-day : goal.returns-clause-day
returns-clause-day c = (given c.in-Ok.date c.args.day c.requires c.in-Ok.ensures.value).2
