-- Numbers and times that are written are read.
use Rattle.std.proofs.Common.{◌≡◌, ℕ, suc, ◌+◌, ◌*◌, ◌^◌, ◌<◌, ◌≤◌, true, false, cond, ◌&&◌, ◌==◌, nat_lt, nat_le, List, [], ◌∷◌, ◌++◌, length, take, drop, get_or, codes, decimal, Some, None, option_and_then, refl, ap, ◌∙◌, arith, rules, ⊎_elim}
use Rattle.std.proofs.Math.Seq.{take-append_seam, drop-append_seam}
use Rattle.std.proofs.lemmas.Bool.{and_from, and_left, and_right, and_parts, cases_lt, le-leb, le-ltb, lt-ltb, ne_eqb, not_from_false}
use Rattle.std.proofs.lemmas.Fmt.{decimal_is_IsNumeral, decimal_nonempty, digits_decimal, first_decimal, length-decimal-le}
use Rattle.std.proofs.lemmas.Str.Parse.{IsNumeralModel, numerals_by_value}
use Rattle.std.specs.Char.{is_ascii_digit}
use Rattle.std.specs.Int.{IsInRange}
use Rattle.std.specs.List.{list_all, prefix_len}
use Rattle.std.specs.Prelude.{slice_index}
use Rattle.std.specs.Str.Parse.{digits_value}
use Rattle.pm_options.specs.Numbers.{is_digits, longest, number_from, number_in, time_in, time_of, within}

-- the texts of digits, and their values
own : IsNumeralModel (λ ds. list_all is_ascii_digit ds ≡ true) (digits_value 10)
own = numerals_by_value (λ ds. list_all is_ascii_digit ds ≡ true) (search rules)

-- a number is written in digits
all_digits : (n : ℕ) → n < 2 ^ 64 → list_all is_ascii_digit (decimal n) ≡ true
all_digits n small = digits_decimal own n small

-- their value is the number
value_of : (n : ℕ) → n < 2 ^ 64 → digits_value 10 (decimal n) ≡ n
value_of n small = (decimal_is_IsNumeral n small).1

-- a digit above zero isn't zero
at_zero : (c : ℕ) → 48 < c → c ≡ 48 → ⊥
at_zero c above is = omega arith

-- no zero stands before another digit
no_zero : (n : ℕ) → n < 2 ^ 64 → (slice_index (decimal n) 0 == 48 && nat_lt 1 (length (decimal n))) ≡ false
no_zero n small =
    let one = nat_lt 1 (length (decimal n)) in
    let not_zero = λ (above : 0 < n). at_zero (get_or (decimal n) 0 0) (first_decimal n above small) in
    let short = λ (none : n ≤ 0). length-decimal-le 1 n (omega arith) (omega arith) small in
    ⊎_elim
    (λ above. and_left _ one (ne_eqb (get_or (decimal n) 0 0) 48 (not_zero above)))
    (λ none. and_right (slice_index (decimal n) 0 == 48) one (le-ltb 1 (length (decimal n)) (short none)))
    (cases_lt 0 n)

-- a number is read from its digits
pub number_in-decimal : (n : ℕ) → n < 2 ^ 64 → number_in (decimal n) ≡ Some n
number_in-decimal n small =
    let some = lt-ltb 0 (length (decimal n)) (decimal_nonempty n small) in
    let digits : is_digits (decimal n) ≡ true = and_from _ _ some (all_digits n small) in
    let plain = and_from (is_digits (decimal n)) _ digits (not_from_false _ (no_zero n small)) in
    ap (λ b. cond b (Some (digits_value 10 (decimal n))) None) plain ∙ ap Some (value_of n small)

-- a number of a range is within it
pub within-is : (low high n : ℕ) → IsInRange low high n → within low high n ≡ Some n
within-is low high n range =
    ap (λ b. cond b (Some n) None)
    (and_from (nat_le low n) (nat_le n high) (le-leb low n range.0) (le-leb n high range.1))

-- so is one of a range
pub number_from-decimal : (low high n : ℕ) → high < 2 ^ 64 → IsInRange low high n
    → number_from low high (decimal n) ≡ Some n
number_from-decimal low high n small range =
    let below = range.1 in
    ap (option_and_then (within low high)) (number_in-decimal n (omega arith)) ∙ within-is low high n range

-- digits end at what is none
digits_before : (xs : List ℕ) (y : ℕ) (ys : List ℕ) → list_all is_ascii_digit xs ≡ true → is_ascii_digit y ≡ false
    → prefix_len is_ascii_digit (xs ++ y ∷ ys) ≡ length xs
digits_before [] y ys all stops = ap (λ b. cond b (1 + prefix_len is_ascii_digit ys) 0) stops
digits_before (x ∷ xs) y ys all stops =
    let parts = and_parts (is_ascii_digit x) (list_all is_ascii_digit xs) all in
    let more : 1 + length xs ≡ suc (length xs) = omega arith in
    ap (λ b. cond b (1 + prefix_len is_ascii_digit (xs ++ y ∷ ys)) 0) parts.0
    ∙ ap (λ k. 1 + k) (digits_before xs y ys parts.1 stops) ∙ more

-- a time is read from its milliseconds
pub time_in-decimal : (n : ℕ) → IsInRange 0 longest n → time_in (decimal n ++ codes " ms") ≡ Some n
time_in-decimal n range =
    let below = range.1 in
    let small : n < 2 ^ 64 = omega arith in
    let digits = decimal n in
    let unit = codes " ms" in
    let once : n * 1 ≡ n = omega arith in
    ap (λ k. time_of (take k (digits ++ unit)) (drop k (digits ++ unit)))
    (digits_before digits 32 (codes "ms") (all_digits n small) refl)
    ∙ ap (λ ds. time_of ds (drop (length digits) (digits ++ unit))) (take-append_seam digits unit)
    ∙ ap (λ rest. time_of digits rest) (drop-append_seam digits unit)
    ∙ ap (λ b. cond b (within 0 longest (digits_value 10 digits * 1)) None)
    (lt-ltb 0 (length digits) (decimal_nonempty n small))
    ∙ ap (λ k. within 0 longest (k * 1)) (value_of n small)
    ∙ ap (λ k. within 0 longest k) once
    ∙ within-is 0 longest n range
