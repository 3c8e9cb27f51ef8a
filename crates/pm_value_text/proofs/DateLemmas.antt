-- The texts of days, both ways.
use Rattle.std.proofs.Common.{◌≡◌, ℕ, ◌+◌, ◌-◌, ◌*◌, ◌/◌, ◌%◌, ◌<◌, ◌≤◌, ◌==◌, ◌&&◌, inl, inr, Bool, true, false, List, [], ◌∷◌, length, slice_index, Option, Some, None, refl, sym, subst, ap, unwrap_or, ◌∙◌, arith, ℤ, pos, unsigned_abs, if◌then◌else◌}
use Rattle.std.proofs.lemmas.Bool.{and_parts, eqb-true}
use Rattle.std.proofs.lemmas.Bool.Decides.{nat_tests}
use Rattle.std.proofs.lemmas.Str.{IsUtf8-from_ascii}
use Rattle.std.proofs.lemmas.Str.Ascii.{IsAscii-cons}
use Rattle.std.specs.Char.{is_ascii_digit}
use Rattle.std.specs.Int.{IsInRange, is_in_range}
use Rattle.std.specs.List.{AllByRecursion}
use Rattle.std.specs.Prelude.{◌↔◌}
use Rattle.std.specs.Str.{IsAscii, IsUtf8}
use Rattle.jiff_core.specs.Calendar.{IsDate, days_from_civil, days_in_month}
use Rattle.jiff_core.specs.Date.{IsYmd, epoch_day}
use Rattle.jiff_core.specs.declared.civil.date.Date.{Date}
use Rattle.jiff_core.proofs.CalendarLemmas.{days_in_month_bounds}
use Rattle.jiff_core.proofs.SignedLemmas.{signed_arith}
use Rattle.pm_value_text.specs.Date.{IsDateCharacter, IsDateText, IsDay, date_text, day_in, day_of_month, digits_in, is_date, month_of, date_number, pair_in, parts_in, parts_text, year_of}
use Rattle.pm_value_text.specs.Steps.{◌>>=◌}
use Rattle.pm_value_text.proofs.CivilLemmas.{IsTableDate, number-parts, number-range, parts-is, parts-number}

both3 : (a b c : Bool) → a ≡ true → b ≡ true → c ≡ true → (a && b && c) ≡ true
both3 a b c e f g = rw (e, f, g) refl

-- ---- two digits

pair_in-digits : (n : ℕ) → n < 100 → pair_in (48 + n / 10) (48 + n % 10) ≡ Some n
pair_in-digits n below =
    let tens : is_ascii_digit (48 + n / 10) ≡ true = grind (arith, nat_tests) in
    let ones : is_ascii_digit (48 + n % 10) ≡ true = grind (arith, nat_tests) in
    let whole : 10 * (48 + n / 10 - 48) + (48 + n % 10 - 48) ≡ n = omega arith in
    rw (tens, ones, whole) refl

pair_in-some : (a b n : ℕ) → pair_in a b ≡ Some n → (n < 100) × (a ≡ 48 + n / 10) × (b ≡ 48 + n % 10)
pair_in-some a b n e = grind (arith, nat_tests)

-- ---- ten characters

-- the text of a date reads as its parts
parts_in-parts_text : (y m d : ℕ) → y < 10000 → m < 100 → d < 100 → parts_in (parts_text y m d) ≡ Some (y, m, d)
parts_in-parts_text y m d year month day =
    let whole : 100 * (y / 100) + y % 100 ≡ y = omega arith in
    rw (pair_in-digits (y / 100) (omega arith), pair_in-digits (y % 100) (omega arith), pair_in-digits m month, pair_in-digits d day)
    (ap (λ (n : ℕ). Some (n, m, d)) whole)

-- a text of ten characters is the list of them
ten : (text : List ℕ) → length text ≡ 10
    → text ≡ slice_index text 0 ∷ slice_index text 1 ∷ slice_index text 2 ∷ slice_index text 3 ∷ slice_index text 4
    ∷ slice_index text 5 ∷ slice_index text 6 ∷ slice_index text 7 ∷ slice_index text 8 ∷ slice_index text 9 ∷ []
ten (a ∷ b ∷ c ∷ d ∷ e ∷ f ∷ g ∷ h ∷ i ∷ j ∷ []) long = refl
ten text long = absurd (omega arith)

-- what a reading after a test shows
tested : {A : Type 0} (test : Bool) (o : Option A) (x : A) → (if test then o else None) ≡ Some x → (test ≡ true) × (o ≡ Some x)
tested true o x e = (refl, e)
tested false o x e = cc

-- what a text that has parts shows
form-is : (text : List ℕ) (parts : ℕ × ℕ × ℕ) → parts_in text ≡ Some parts
    → (length text ≡ 10) × (slice_index text 4 ≡ 45) × (slice_index text 7 ≡ 45) × (digits_in text ≡ Some parts)
form-is text parts e =
    let facts = tested (length text == 10 && slice_index text 4 == 45 && slice_index text 7 == 45) (digits_in text) parts e in
    let outer = and_parts (length text == 10 && slice_index text 4 == 45) (slice_index text 7 == 45) facts.0 in
    let inner = and_parts (length text == 10) (slice_index text 4 == 45) outer.0 in
    (eqb-true _ _ inner.0, eqb-true _ _ inner.1, eqb-true _ _ outer.1, facts.1)

-- what four readings that succeed show
four_read : (century rest month day : Option ℕ) (parts : ℕ × ℕ × ℕ)
    → (century >>= (λ c. rest >>= (λ r. month >>= (λ m. day >>= (λ d. Some (100 * c + r, m, d)))))) ≡ Some parts
    → (c r : ℕ) × (century ≡ Some c) × (rest ≡ Some r) × (month ≡ Some parts.1) × (day ≡ Some parts.2) × (parts.0 ≡ 100 * c + r)
four_read None rest month day parts e = cc
four_read (Some c) None month day parts e = cc
four_read (Some c) (Some r) None day parts e = cc
four_read (Some c) (Some r) (Some m) None parts e = cc
four_read (Some c) (Some r) (Some m) (Some d) parts e =
    let part = λ (o : Option (ℕ × ℕ × ℕ)). unwrap_or o (0, 0, 0) in
    (c, r, refl, refl, ap (λ o. Some (part o).1) e, ap (λ o. Some (part o).2) e, sym (ap (λ o. (part o).0) e))

-- ten characters that read as parts are the text of the parts
characters-is : (a b c d e f g h i j century rest y m n : ℕ) → pair_in a b ≡ Some century → pair_in c d ≡ Some rest → e ≡ 45
    → pair_in f g ≡ Some m → h ≡ 45 → pair_in i j ≡ Some n → y ≡ 100 * century + rest
    → (a ∷ b ∷ c ∷ d ∷ e ∷ f ∷ g ∷ h ∷ i ∷ j ∷ []) ≡ parts_text y m n
characters-is a b c d e f g h i j century rest y m n ab cd hyphen fg other ij whole =
    let first = pair_in-some a b century ab in
    let second = pair_in-some c d rest cd in
    let third = pair_in-some f g m fg in
    let fourth = pair_in-some i j n ij in
    let high : y / 100 ≡ century = omega arith in
    let low : y % 100 ≡ rest = omega arith in
    rw (high, low, first.1, first.2, second.1, second.2, hyphen, third.1, third.2, other, fourth.1, fourth.2) refl

-- a text that has parts is the text of its parts
parts_in-some : (text : List ℕ) (parts : ℕ × ℕ × ℕ) → parts_in text ≡ Some parts → text ≡ parts_text parts.0 parts.1 parts.2
parts_in-some text parts e =
    let form = form-is text parts e in
    let read = four_read (pair_in (slice_index text 0) (slice_index text 1)) (pair_in (slice_index text 2) (slice_index text 3))
    (pair_in (slice_index text 5) (slice_index text 6)) (pair_in (slice_index text 8) (slice_index text 9)) parts form.3 in
    ten text form.0 ∙ characters-is _ _ _ _ _ _ _ _ _ _ read.0 read.1 parts.0 parts.1 parts.2 read.2 read.3 form.1 read.4 form.2 read.5 read.6

-- ---- dates

in_range-true : (low high n : ℕ) → is_in_range low high n ≡ true → IsInRange low high n
in_range-true low high n e = (grind (arith, nat_tests), grind (arith, nat_tests))

in_range-from : (low high n : ℕ) → IsInRange low high n → is_in_range low high n ≡ true
in_range-from low high n h = grind (arith, nat_tests)

is_date-true : (y m d : ℕ) → is_date y m d ≡ true → IsTableDate y m d
is_date-true y m d e =
    let outer = and_parts (is_in_range 1 9999 y && is_in_range 1 12 m) (is_in_range 1 (days_in_month (pos y) m) d) e in
    let inner = and_parts (is_in_range 1 9999 y) (is_in_range 1 12 m) outer.0 in
    record { year_in = in_range-true 1 9999 y inner.0; month_in = in_range-true 1 12 m inner.1; day_in = in_range-true 1 _ d outer.1 }

is_date-from : (y m d : ℕ) → IsTableDate y m d → is_date y m d ≡ true
is_date-from y m d is =
    both3 _ _ _ (in_range-from 1 9999 y is.year_in) (in_range-from 1 12 m is.month_in) (in_range-from 1 _ d is.day_in)

date_number-some : (y m d : ℕ) (number : ℤ) → date_number y m d ≡ Some number → IsTableDate y m d × (number ≡ days_from_civil (pos y) m d)
date_number-some y m d number e =
    let facts = tested (is_date y m d) (Some (days_from_civil (pos y) m d)) number e in
    (is_date-true y m d facts.0, sym (ap (λ (o : Option ℤ). unwrap_or o (pos 0)) facts.1))

pub date_number-date : (y m d : ℕ) → IsTableDate y m d → date_number y m d ≡ Some (days_from_civil (pos y) m d)
date_number-date y m d is = rw (is_date-from y m d is) refl

-- ---- texts

-- the text of a date reads as its number
read_date : (y m d : ℕ) → IsTableDate y m d → day_in (parts_text y m d) ≡ Some (days_from_civil (pos y) m d)
unfolding day_in
read_date y m d is =
    let long = days_in_month_bounds (pos y) m in
    rw (parts_in-parts_text y m d (omega (arith, is.year_in)) (omega (arith, is.month_in)) (omega (arith, is.day_in))) (date_number-date y m d is)

-- a reading and then another
both_read : (parts : Option (ℕ × ℕ × ℕ)) (number : ℤ) → (parts >>= (λ p. date_number p.0 p.1 p.2)) ≡ Some number
    → (p : ℕ × ℕ × ℕ) × (parts ≡ Some p) × (date_number p.0 p.1 p.2 ≡ Some number)
both_read None number e = cc
both_read (Some p) number e = (p, refl, e)

-- a text that names a day is that of a date
day_in-date : (text : List ℕ) (number : ℤ) → day_in text ≡ Some number
    → (y m d : ℕ) × IsTableDate y m d × (text ≡ parts_text y m d) × (number ≡ days_from_civil (pos y) m d)
unfolding day_in
day_in-date text number e =
    let read = both_read (parts_in text) number e in
    let date = date_number-some read.0.0 read.0.1 read.0.2 number read.2 in
    (read.0.0, read.0.1, read.0.2, date.0, parts_in-some text read.0 read.1, date.1)

pub day_in-date_text : (day : ℤ) → IsDay day → day_in (date_text day) ≡ Some day
unfolding date_text
day_in-date_text day range =
    read_date (year_of day) (month_of day) (day_of_month day) (parts-is day range) ∙ ap Some (parts-number day range)

pub parts_text-same : (y m d y2 m2 d2 : ℕ) → y ≡ y2 → m ≡ m2 → d ≡ d2 → parts_text y m d ≡ parts_text y2 m2 d2
parts_text-same y m d y2 m2 d2 year month day = rw (year, month, day) refl

-- the text of a date is that of its number
date_text-date : (y m d : ℕ) → IsTableDate y m d → parts_text y m d ≡ date_text (days_from_civil (pos y) m d)
unfolding date_text
date_text-date y m d is =
    let same = number-parts y m d is in
    parts_text-same y m d _ _ _ same.0 same.1 same.2

pub text-day_in : (text : List ℕ) (day : ℤ) → day_in text ≡ Some day → IsDay day × (text ≡ date_text day)
text-day_in text day e =
    let date = day_in-date text day e in (
      subst IsDay (sym date.5) (number-range date.0 date.1 date.2 date.3),
      date.4 ∙ date_text-date date.0 date.1 date.2 date.3 ∙ ap date_text (sym date.5),
    )

pub day_in-named : (text : List ℕ) (day : ℤ) → (day_in text ≡ Some day) ↔ IsDateText text day
day_in-named text day = (
  (λ e. let date = day_in-date text day e in
      (date.0, date.1, date.2, date.3.year_in.0, ((omega (arith, signed_arith), omega (arith, signed_arith, date.3.year_in)), date.3.month_in, date.3.day_in), date.4, date.5)),
  (λ named.
      let is : IsTableDate named.0 named.1 named.2 = record {
        year_in = (named.3, omega (arith, signed_arith, named.4.0));
        month_in = named.4.1;
        day_in = named.4.2;
      } in
      rw (named.5, named.6) (read_date named.0 named.1 named.2 is)),
)

-- ---- the characters of a date

IsDateCharacter-digits : (n : ℕ) → n < 100 → IsDateCharacter (48 + n / 10) × IsDateCharacter (48 + n % 10)
IsDateCharacter-digits n below = (inl (omega arith, omega arith), inl (omega arith, omega arith))

pub length-date_text : (day : ℤ) → length (date_text day) ≡ 10
unfolding date_text
length-date_text day = refl

date_characters : (y m d : ℕ) → y < 10000 → m < 100 → d < 100 → AllByRecursion IsDateCharacter (parts_text y m d)
date_characters y m d year month day =
    let century = IsDateCharacter-digits (y / 100) (omega arith) in
    let rest = IsDateCharacter-digits (y % 100) (omega arith) in
    let months = IsDateCharacter-digits m month in
    let days = IsDateCharacter-digits d day in
    (century.0, (century.1, (rest.0, (rest.1, (inr refl, (months.0, (months.1, (inr refl, (days.0, (days.1, tt))))))))))

-- the parts of a day number have two digits, and its year four
pub record IsShort (day : ℤ) : Type 0 where
  pub year_in : IsInRange 1 9999 (year_of day)
  pub month_in : IsInRange 1 12 (month_of day)
  pub day_in : IsInRange 1 31 (day_of_month day)

pub parts-short : (day : ℤ) → IsDay day → IsShort day
parts-short day range =
    let is = parts-is day range in
    let long = days_in_month_bounds (pos (year_of day)) (month_of day) in
    record { year_in = is.year_in; month_in = is.month_in; day_in = (is.day_in.0, omega (arith, is.day_in, long)) }

pub date_text-characters : (day : ℤ) → IsDay day → AllByRecursion IsDateCharacter (date_text day)
unfolding date_text
date_text-characters day range =
    let short = parts-short day range in
    date_characters (year_of day) (month_of day) (day_of_month day)
    (omega (arith, short.year_in)) (omega (arith, short.month_in)) (omega (arith, short.day_in))

below_ascii : (c : ℕ) → IsDateCharacter c → c < 128
below_ascii c (inl digit) = omega (arith, digit)
below_ascii c (inr hyphen) = omega arith

-- such characters are ASCII
IsAscii-characters : (text : List ℕ) → AllByRecursion IsDateCharacter text → IsAscii text
IsAscii-characters [] all i = omega arith
IsAscii-characters (c ∷ text) all i = IsAscii-cons c text (below_ascii c all.0) (IsAscii-characters text all.1) i

pub IsUtf8-date_text : (day : ℤ) → IsDay day → IsUtf8 (date_text day)
IsUtf8-date_text day range = IsUtf8-from_ascii (date_text day) (IsAscii-characters (date_text day) (date_text-characters day range))

-- ---- what the code knows of a date of jiff

-- a date that jiff made of a year, a month and a day has the number of them
pub date_number-jiff : (y m d : ℕ) (date : Date) (number : ℤ) → 1 ≤ y → IsDate (pos y) (pos m) (pos d) → IsYmd (pos y) (pos m) (pos d) date
    → number ≡ epoch_day date → Some number ≡ date_number y m d
date_number-jiff y m d date number first valid ymd e =
    let is : IsTableDate y m d = record {
      year_in = (first, omega (arith, signed_arith, valid.0));
      month_in = (omega (arith, signed_arith, valid.1), omega (arith, signed_arith, valid.1));
      day_in = (omega (arith, signed_arith, valid.2), omega (arith, signed_arith, valid.2));
    } in
    let same : epoch_day date ≡ days_from_civil (pos y) m d = rw (ymd.0, ap unsigned_abs ymd.1, ap unsigned_abs ymd.2) refl in
    ap Some (e ∙ same) ∙ sym (date_number-date y m d is)

-- the text of a day is that of the civil date with its number
pub IsDateText-date_text : (day : ℤ) → IsDay day → IsDateText (date_text day) day
IsDateText-date_text day range = (day_in-named (date_text day) day).0 (day_in-date_text day range)

-- what is read of a text is its day exactly where the text is that of the day
pub named_as : (text : List ℕ) (found : Option ℤ) → found ≡ day_in text → (day : ℤ) → (found ≡ Some day) ↔ IsDateText text day
named_as text found is day = subst (λ (o : Option ℤ). (o ≡ Some day) ↔ IsDateText text day) (sym is) (day_in-named text day)

-- what is printed of a day is the text of the civil date with its number
pub printed_as : (text : List ℕ) (day : ℤ) → IsDay day → text ≡ date_text day → IsDateText text day
printed_as text day range is = subst (λ (t : List ℕ). IsDateText t day) (sym is) (IsDateText-date_text day range)
