-- Digits, and numbers that are cut off at the greatest of 64 bits.
use Rattle.std.proofs.Common.{◌≡◌, ℕ, ◌+◌, ◌-◌, ◌*◌, ◌^◌, ◌<◌, min, List, length, take, get_or, true, rules, arith, ap}
use Rattle.std.proofs.lemmas.Int.Digits.{digits_value_more}
use Rattle.std.proofs.lemmas.Str.{digit_value_digit}
use Rattle.std.proofs.lemmas.Bool.Decides.{nat_tests}
use Rattle.std.specs.Char.{is_ascii_digit, digit_value}
use Rattle.std.specs.Int.{IsInRange}
use Rattle.std.specs.List.{prefix_len, AllPass}
use Rattle.std.proofs.lemmas.List.{get_or-take}
use Rattle.std.proofs.lemmas.List.Folds.{length-prefix_len}
use Rattle.std.proofs.lemmas.List.Sums.{prefix_len_passes}
use Rattle.std.specs.Str.Parse.{digits_value}

pub digit_range : (c : ℕ) → is_ascii_digit c ≡ true → IsInRange 48 57 c
digit_range c is = search (rules, nat_tests)

-- one more digit
pub digits_value-next : (digits : List ℕ) (i total c : ℕ) → i < length digits → c ≡ get_or digits i 0 → is_ascii_digit c ≡ true
    → total ≡ min (2 ^ 64 - 1) (digits_value 10 (take i digits))
    → min (min (total * 10) (2 ^ 64 - 1) + (c - 48)) (2 ^ 64 - 1) ≡ min (2 ^ 64 - 1) (digits_value 10 (take (i + 1) digits))
digits_value-next digits i total c within is digit before =
    let range = digit_range c digit in
    let value = digit_value_digit c range in
    let whole = digits_value_more 10 digits i within in
    let same = ap digit_value is in
    omega arith

-- the digits that a text begins with are digits
pub prefix_passes : (text : List ℕ) (n : ℕ) → n ≡ prefix_len is_ascii_digit text → AllPass is_ascii_digit (take n text)
prefix_passes text n is k d within =
    let len = length-prefix_len is_ascii_digit text in
    let short = ap (λ m. length (take m text)) is in
    let here : k < prefix_len is_ascii_digit text = omega arith in
    let inside : k < n = omega arith in
    rw (get_or-take n text k d inside) (prefix_len_passes is_ascii_digit text k d here)
