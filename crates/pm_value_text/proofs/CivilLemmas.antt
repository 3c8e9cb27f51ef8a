-- The year, the month and the day of a day number, against jiff's calendar.
use Rattle.std.proofs.Common.{◌≡◌, ℕ, suc, ◌+◌, ◌-◌, ◌*◌, ◌/◌, ◌%◌, ◌≤◌, inl, inr, refl, sym, ap, ◌∙◌, arith, ℤ, pos, negsuc, Bool, true, false, ◌<◌, ◌+ℤ◌, ◌≤ℤ◌, unsigned_abs, if◌then◌else◌, nat_lt}
use Rattle.std.proofs.lemmas.Bool.{cases_lt}
use Rattle.std.proofs.lemmas.Bool.Decides.{nat_tests}
use Rattle.std.specs.Int.{IsInRange}
use Rattle.jiff_core.specs.Calendar.{day_count, days_from_civil, days_in_month}
use Rattle.jiff_core.specs.Date.{epoch_day}
use Rattle.jiff_core.specs.March as march
use Rattle.jiff_core.specs.declared.civil.date.Date.{Date}
use Rattle.jiff_core.proofs.CalendarLemmas.{day_count_bounds, days_from_civil-day_count}
use Rattle.jiff_core.proofs.DateLemmas.{epoch_day_injective}
use Rattle.jiff_core.proofs.MarchLemmas.{day_count-early, day_count-late, day_in_early_month, day_in_month, march_days-suc, month_and_day}
use Rattle.jiff_core.proofs.SignedLemmas.{signed_arith}
use Rattle.pm_value_text.specs.Date.{IsDay, day_of_century, day_of_month, day_of_year, march_days, march_month, march_year, month_of, year_of}

-- the year that begins in March, and the days of it that have passed, of a number of days since 0000-03-01
march_facts : (z century rest years passed : ℕ) → century ≡ (4 * z + 3) / 146097 → rest ≡ (4 * z + 3) % 146097 / 4
    → years ≡ (4 * rest + 3) / 1461 → passed ≡ (4 * rest + 3) % 1461 / 4
    → (march.march_days (100 * century + years) + passed ≡ z) × (z < march.march_days (100 * century + years + 1)) × (passed < 366)
march_facts z century rest years passed ec er ey ep = (omega arith, omega arith, omega arith)

-- the same ten thousand years on, where jiff begins
march_shift : (y : ℕ) → march.march_days (y + 10000) ≡ march.march_days y + 3652425
march_shift y = omega arith

-- a number that isn't negative is its size
size-is : (z : ℤ) → pos 0 ≤ℤ z → pos (unsigned_abs z) ≡ z
size-is (pos n) h = refl
size-is (negsuc n) h = absurd (omega (arith, signed_arith))

-- the days since 0000-03-01 that a day number from 0001-01-01 to 9999-12-31 has
march_days-is : (day : ℤ) → IsDay day → (pos (march_days day) ≡ day +ℤ pos 719468) × (306 ≤ march_days day) × (march_days day ≤ 3652364)
march_days-is day range =
    let e = size-is (day +ℤ pos 719468) (omega (arith, signed_arith)) in
    (e, omega (arith, signed_arith), omega (arith, signed_arith))

-- The date that lies so many days after 1 March of a year: it is civil, and is counted from the year -10000.
IsDateAfter : ℕ → ℕ → ℕ → ℕ → Type 0
IsDateAfter z year month day =
    IsInRange 1 9999 year × IsInRange 1 12 month × IsInRange 1 (days_in_month (pos year) month) day
    × (day_count (pos year) month day ≡ z + 3652485)

-- a date from March to December
late_date : (z y n : ℕ) → march.march_days y + n ≡ z → n < 366 → (5 * n + 461) / 153 ≤ 12 → 306 ≤ z → z ≤ 3652364
    → IsDateAfter z y ((5 * n + 461) / 153) ((5 * n + 461) % 153 / 5 + 1)
unfolding IsDateAfter
late_date z y n whole small late low high =
    let count = day_count-late (pos y) (y + 10000) ((5 * n + 461) / 153) ((5 * n + 461) % 153 / 5 + 1)
    (omega (arith, signed_arith)) (omega arith) late (omega arith) in
    let parts = month_and_day n small in
    let shift = march_shift y in
    ((omega arith, omega arith), (omega arith, late), (omega arith, day_in_month (pos y) n late), omega (arith, count, parts, shift))

-- a date of January or February, in the year that follows
early_date : (z y n : ℕ) → march.march_days y + n ≡ z → z < march.march_days (y + 1) → n < 366 → 12 < (5 * n + 461) / 153 → 306 ≤ z → z ≤ 3652364
    → IsDateAfter z (y + 1) ((5 * n + 461) / 153 - 12) ((5 * n + 461) % 153 / 5 + 1)
unfolding IsDateAfter
early_date z y n whole within small early low high =
    let back : (5 * n + 461) / 153 - 12 + 12 ≡ (5 * n + 461) / 153 = omega arith in
    let count = day_count-early (pos (y + 1)) (y + 10000) ((5 * n + 461) / 153 - 12) ((5 * n + 461) % 153 / 5 + 1)
    (omega (arith, signed_arith)) (omega arith) (omega arith) (omega arith) in
    let parts = month_and_day n small in
    let shift = march_shift y in
    let next : suc y ≡ y + 1 = omega arith in
    let long = rw next at (march_days-suc y) in (
      (omega arith, omega arith),
      (omega arith, omega arith),
      (omega arith, day_in_early_month (pos (y + 1)) n early (omega (arith, long, whole, within))),
      omega (arith, rw back at count, parts, shift),
    )

-- one of two choices that a test makes together
chosen : (P : ℕ → ℕ → Type 0) (y m : ℕ) (test : Bool) → (test ≡ true → P (y + 1) (m - 12)) → (test ≡ false → P y m)
    → P (if test then y + 1 else y) (if test then m - 12 else m)
chosen P y m true past within = past refl
chosen P y m false past within = within refl

below_from : (m : ℕ) → nat_lt 12 m ≡ true → 12 < m
below_from m e = grind (arith, nat_tests)

at_most_from : (m : ℕ) → nat_lt 12 m ≡ false → m ≤ 12
at_most_from m e = grind (arith, nat_tests)

-- the number of a date, from its count
numbered : (number : ℤ) (z : ℕ) (y : ℤ) (m d : ℕ) → pos z ≡ number +ℤ pos 719468 → day_count y m d ≡ z + 3652485 → days_from_civil y m d ≡ number
numbered number z y m d shift count = omega (arith, signed_arith, days_from_civil-day_count y m d)

-- the parts of a day number are such a date
date_after : (day : ℤ) → IsDay day → IsDateAfter (march_days day) (year_of day) (month_of day) (day_of_month day)
date_after day range =
    let z = march_days day in
    let bounds = march_days-is day range in
    let facts = march_facts z ((4 * z + 3) / 146097) (day_of_century day) ((4 * day_of_century day + 3) / 1461) (day_of_year day) refl refl refl refl in
    chosen (λ year month. IsDateAfter z year month (day_of_month day)) (march_year day) (march_month day) (nat_lt 12 (march_month day))
    (λ e. early_date z (march_year day) (day_of_year day) facts.0 facts.1 facts.2 (below_from (march_month day) e) bounds.1 bounds.2)
    (λ e. late_date z (march_year day) (day_of_year day) facts.0 facts.2 (at_most_from (march_month day) e) bounds.1 bounds.2)

-- The parts of a date from 0001-01-01 to 9999-12-31.
pub record IsTableDate (year month day : ℕ) : Type 0 where
  pub year_in : IsInRange 1 9999 year
  pub month_in : IsInRange 1 12 month
  pub day_in : IsInRange 1 (days_in_month (pos year) month) day

-- the parts of a day number are a date with this number
pub parts-is : (day : ℤ) → IsDay day → IsTableDate (year_of day) (month_of day) (day_of_month day)
unfolding IsDateAfter
parts-is day range =
    let facts = date_after day range in
    record { year_in = facts.0; month_in = facts.1; day_in = facts.2 }

pub parts-number : (day : ℤ) → IsDay day → days_from_civil (pos (year_of day)) (month_of day) (day_of_month day) ≡ day
unfolding IsDateAfter
parts-number day range =
    numbered day (march_days day) (pos (year_of day)) (month_of day) (day_of_month day) (march_days-is day range).0 (date_after day range).3

-- a date that jiff has
pub jiff_date : (year month day : ℕ) → IsTableDate year month day → Date
jiff_date year month day is = record {
  year = pos year;
  month = month;
  day = day;
  year_in = (omega (arith, signed_arith), omega (arith, signed_arith));
  month_in = is.month_in;
  day_in = is.day_in;
}

-- a date of the table has the parts of its number
pub date-parts : (d : Date) (day : ℤ) → IsDay day → epoch_day d ≡ day
    → (d.year ≡ pos (year_of day)) × (d.month ≡ month_of day) × (d.day ≡ day_of_month day)
unfolding jiff_date
date-parts d day range e =
    epoch_day_injective d (jiff_date (year_of day) (month_of day) (day_of_month day) (parts-is day range)) (e ∙ sym (parts-number day range))

-- the numbers of such dates
march_low : (n : ℕ) → 10000 ≤ n → 3652425 ≤ march.march_days n
march_low n low = omega arith

first_count : (year month day : ℕ) → IsTableDate year month day → 3652791 ≤ day_count (pos year) month day
first_count year month day is = elim (cases_lt month 3) [
  | inl early ↦
      let count = day_count-early (pos year) (year + 9999) month day (omega (arith, signed_arith)) is.month_in.0 (omega arith) is.day_in.0 in
      let low = march_low (year + 9999) (omega arith) in
      omega (arith, count, low)
  | inr late ↦
      let count = day_count-late (pos year) (year + 10000) month day (omega (arith, signed_arith)) late is.month_in.1 is.day_in.0 in
      let low = march_low (year + 10000) (omega arith) in
      omega (arith, count, low)
]

pub number-range : (year month day : ℕ) → IsTableDate year month day → IsDay (days_from_civil (pos year) month day)
number-range year month day is =
    let low = first_count year month day is in
    let high = (day_count_bounds (pos year) month day ((omega (arith, signed_arith), omega (arith, signed_arith)), is.month_in, is.day_in)).1 in
    (omega (arith, signed_arith, days_from_civil-day_count (pos year) month day), omega (arith, signed_arith, days_from_civil-day_count (pos year) month day))

-- a date is the only one with its number
pub number-parts : (year month day : ℕ) → IsTableDate year month day
    → (year ≡ year_of (days_from_civil (pos year) month day)) × (month ≡ month_of (days_from_civil (pos year) month day))
    × (day ≡ day_of_month (days_from_civil (pos year) month day))
unfolding jiff_date
number-parts year month day is =
    let same = date-parts (jiff_date year month day is) (days_from_civil (pos year) month day) (number-range year month day is) refl in
    (ap unsigned_abs same.0, same.1, same.2)
