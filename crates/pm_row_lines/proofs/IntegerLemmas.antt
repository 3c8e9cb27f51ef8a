-- Integers that are read from their text, as JSON reads them.
use Rattle.std.proofs.Common.{◌≡◌, ℕ, suc, zero, ◌<◌, ◌≤◌, ◌^◌, List, length, Bool, T, true, false, Option, Some, None, option_map, option_and_then, ℤ, pos, neg_ℤ, ◌<ℤ◌, ◌≤ℤ◌, int_le, FitsSigned, refl, sym, ap, subst, arith, eq-eqb, lt-ltb, le-leb}
use Rattle.std.specs.Int.{w64}
use Rattle.std.proofs.lemmas.Int.{ints}
use Rattle.fast_float.specs.Text.{Parts, digits_of, with_sign, IsInteger}
use Rattle.json.specs.Token as tok
use Rattle.serde_json.specs.Data.{number}
use Rattle.serde_json.specs.Find.{as_integer}
use Rattle.serde_json.specs.Read.{number_of, number_from}
use Rattle.pm_rows.specs.Reading.{integer_at}
use Rattle.pm_row_lines.specs.Tokens.{ReadsAs}

is_true : (b : Bool) → T b → b ≡ true
is_true true h = refl
is_true false h = absurd h

found_in : {A B : Type 0} (o : Option A) (f : A → Option B) (b : B) → option_and_then f o ≡ Some b → (a : A) × (o ≡ Some a) × (f a ≡ Some b)
found_in None f b e = cc
found_in (Some a) f b e = (a, refl, e)

pub integer_of_text : (text : List ℕ) (low high n : ℤ) → low ≤ℤ n → n ≤ℤ high → option_and_then as_integer (number_of text) ≡ Some n
    → ReadsAs (λ index. integer_at index low high) (tok.number text) n
integer_of_text text low high n above below e =
    let found = found_in (number_of text) as_integer n e in
    (number found.0, ap (option_map number) found.1, λ index. rw (found.2, is_true (int_le low n) above.le, is_true (int_le n high) below.le) refl)

unsigned_size : (d : ℕ) → FitsSigned w64 (pos d) → d < 2 ^ 64
unsigned_size d fits = omega arith

signed_size : (d : ℕ) → FitsSigned w64 (neg_ℤ (pos d)) → neg_ℤ (pos d) <ℤ pos 0 → (0 < d) × (d ≤ 2 ^ 63)
signed_size zero fits below = absurd (omega (arith, ints))
signed_size (suc m) fits below = (omega arith, omega (arith, ints))

pub integer_from_zero : (p : Parts) (n : ℤ) → IsInteger p → FitsSigned w64 (with_sign false (digits_of p)) → n ≡ with_sign false (digits_of p)
    → option_and_then as_integer (number_from false p) ≡ Some n
integer_from_zero p n is fits same =
    rw (lt-ltb 0 (length p.whole) is.0, is.1, eq-eqb (length p.exponent) 0 is.2, lt-ltb (digits_of p) (2 ^ 64) (unsigned_size (digits_of p) fits))
    (ap Some (sym same))

pub integer_below_zero : (p : Parts) (n : ℤ) → IsInteger p → FitsSigned w64 (with_sign true (digits_of p)) → n ≡ with_sign true (digits_of p) → n <ℤ pos 0
    → option_and_then as_integer (number_from true p) ≡ Some n
integer_below_zero p n is fits same below =
    let size = signed_size (digits_of p) fits (subst (λ z. z <ℤ pos 0) same below) in
    rw (lt-ltb 0 (length p.whole) is.0, is.1, eq-eqb (length p.exponent) 0 is.2, lt-ltb 0 (digits_of p) size.0, le-leb (digits_of p) (2 ^ 63) size.1)
    (ap Some (sym same))
