-- How long the texts of values are.
use Rattle.std.proofs.Common.{◌≡◌, ℕ, ℤ, ◌*◌, ◌≤◌, false, List, [], ◌∷◌, length, nat_lt, refl, sym, ◌∙◌, arith, inl}
use Rattle.std.proofs.Common.{inr}
use Rattle.std.proofs.lemmas.Bool.{cases_lt, le-ltb, lt-ltb}
use Rattle.std.proofs.lemmas.Fmt.{length_signed_le}
use Rattle.std.specs.Fmt.{signed_decimal}
use Rattle.std.specs.Int.{w64}
use Rattle.std.specs.Int.RustNames.{FitsSigned}
use Rattle.pm_value_text.specs.Date.{date_text}
use Rattle.pm_value_text.specs.Hexadecimal.{hex_text}

hex_length : (bytes : List ℕ) → length (hex_text bytes) ≡ 2 * length bytes
unfolding hex_text
hex_length [] = refl
hex_length (b ∷ bytes) = omega (arith, hex_length bytes)

pub hex_long : (bytes : List ℕ) → nat_lt 30 (length bytes) ≡ nat_lt 60 (length (hex_text bytes))
hex_long bytes =
    let twice = hex_length bytes in
    elim (cases_lt 30 (length bytes)) [
      | inl lt ↦ lt-ltb 30 (length bytes) lt ∙ sym (lt-ltb 60 (length (hex_text bytes)) (omega arith))
      | inr le ↦ le-ltb 30 (length bytes) le ∙ sym (le-ltb 60 (length (hex_text bytes)) (omega arith))
    ]

pub number_short : (n : ℤ) → FitsSigned w64 n → nat_lt 60 (length (signed_decimal n)) ≡ false
number_short n fits =
    let le : length (signed_decimal n) ≤ 20 = length_signed_le 19 n (omega (arith, fits.sfits)) fits.sfits in
    le-ltb 60 (length (signed_decimal n)) (omega arith)

pub day_short : (day : ℤ) → nat_lt 60 (length (date_text day)) ≡ false
unfolding date_text
day_short day = refl
