-- Days as text: `YYYY-MM-DD` of the civil date. The calendar and the number of a date are jiff's.
use Rattle.std.specs.Prelude.{◌≡◌, ℕ, ◌+◌, ◌-◌, ◌*◌, ◌/◌, ◌%◌, ◌≤◌, ◌==◌, ◌&&◌, nat_lt, Bool, ℤ, pos, ◌+ℤ◌}
use Rattle.std.specs.Prelude.{unsigned_abs, List, [], ◌∷◌, ◌++◌, length, Option, Some, None, if◌then◌else◌}
use Rattle.std.specs.Prelude.{slice_index, ◌⊎◌}
use Rattle.std.specs.Char.{is_ascii_digit}
use Rattle.std.specs.Int.{IsInRange, is_in_range}
use Rattle.jiff_core.specs.Calendar.{IsBetween, IsCivilDate, days_from_civil, days_in_month}
use Rattle.pm_values.specs.Fits.{first_day, last_day}
use Rattle.pm_value_text.specs.Steps.{◌>>=◌}

-- the number of a day from 0001-01-01 to 9999-12-31
abbrev pub IsDay : ℤ → Type 0
IsDay = IsBetween first_day last_day

-- a number below 100 in two digits
abbrev pub two_digits : ℕ → List ℕ
two_digits n = (48 + n / 10) ∷ (48 + n % 10) ∷ []

-- `YYYY-MM-DD`: the text of a year below 10000, a month and a day
abbrev pub parts_text : ℕ → ℕ → ℕ → List ℕ
parts_text year month day =
    two_digits (year / 100) ++ two_digits (year % 100) ++ 45 ∷ two_digits month ++ 45 ∷ two_digits day

-- the text is `YYYY-MM-DD` of the civil date, from 0001-01-01 to 9999-12-31, that has this day number
abbrev pub IsDateText : List ℕ → ℤ → Type 0
IsDateText text number =
    (year month day : ℕ) × (1 ≤ year) × IsCivilDate (pos year) month day
    × (text ≡ parts_text year month day) × (number ≡ days_from_civil (pos year) month day)

-- ---- from a text to its day

-- the number of two decimal digits
abbrev pub pair_in : ℕ → ℕ → Option ℕ
pair_in tens ones =
    if is_ascii_digit tens && is_ascii_digit ones then Some (10 * (tens - 48) + (ones - 48)) else None

-- the year, the month and the day that the digits of ten characters write
abbrev pub digits_in : List ℕ → Option (ℕ × ℕ × ℕ)
digits_in text = do
  century ← pair_in (slice_index text 0) (slice_index text 1)
  rest ← pair_in (slice_index text 2) (slice_index text 3)
  month ← pair_in (slice_index text 5) (slice_index text 6)
  day ← pair_in (slice_index text 8) (slice_index text 9)
  Some (100 * century + rest, month, day)

-- the same, of a text of ten characters with its two hyphens
abbrev pub parts_in : List ℕ → Option (ℕ × ℕ × ℕ)
parts_in text =
    if length text == 10 && slice_index text 4 == 45 && slice_index text 7 == 45
    then digits_in text else None

-- whether there is such a date from 0001-01-01 to 9999-12-31
abbrev pub is_date : ℕ → ℕ → ℕ → Bool
is_date year month day =
    is_in_range 1 9999 year && is_in_range 1 12 month
    && is_in_range 1 (days_in_month (pos year) month) day

-- the number of a date, if there is such a date
abbrev pub date_number : ℕ → ℕ → ℕ → Option ℤ
date_number year month day =
    if is_date year month day then Some (days_from_civil (pos year) month day) else None

-- the number of the day that a text names; none for a text that names no day
unfoldable pub day_in : List ℕ → Option ℤ
day_in text = do
  parts ← parts_in text
  date_number parts.0 parts.1 parts.2

-- ---- from a day to its text, by years that begin on 1 March, so that a leap day comes last

-- the days since 1 March of the year 0
abbrev pub march_days : ℤ → ℕ
march_days day = unsigned_abs (day +ℤ pos 719468)

-- the days since the century began, of which every fourth is one day longer
abbrev pub day_of_century : ℤ → ℕ
day_of_century day = (4 * march_days day + 3) % 146097 / 4

-- the years that began on 1 March
abbrev pub march_year : ℤ → ℕ
march_year day =
    100 * ((4 * march_days day + 3) / 146097) + (4 * day_of_century day + 3) / 1461

-- the days since 1 March
abbrev pub day_of_year : ℤ → ℕ
day_of_year day = (4 * day_of_century day + 3) % 1461 / 4

-- the month, from 3 for March to 14 for February
abbrev pub march_month : ℤ → ℕ
march_month day = (5 * day_of_year day + 461) / 153

-- the year, the month and the day of the month that a day number has
abbrev pub year_of : ℤ → ℕ
year_of day = if nat_lt 12 (march_month day) then march_year day + 1 else march_year day

abbrev pub month_of : ℤ → ℕ
month_of day = if nat_lt 12 (march_month day) then march_month day - 12 else march_month day

abbrev pub day_of_month : ℤ → ℕ
day_of_month day = (5 * day_of_year day + 461) % 153 / 5 + 1

-- the text of a day from 0001-01-01 to 9999-12-31: the one with IsDateText, as the laws say
unfoldable pub date_text : ℤ → List ℕ
date_text day = parts_text (year_of day) (month_of day) (day_of_month day)

-- a decimal digit or a hyphen
abbrev pub IsDateCharacter : ℕ → Type 0
IsDateCharacter c = IsInRange 48 57 c ⊎ (c ≡ 45)
