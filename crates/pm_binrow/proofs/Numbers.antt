-- Numbers and the eight bytes of a slot, both ways.
use Rattle.std.proofs.Common.{◌≡◌, ℕ, ◌%◌, ◌^◌, ◌<◌, Bool, true, false, eqb, ltb}
use Rattle.std.proofs.Common.{ℤ, pos, negsuc, List, [], length, get_or, Some, refl, sym, ap, subst, ◌∙◌, ◌&&◌, arith, rules, inl, inr}
use Rattle.std.specs.Prelude.{◌≤ℤ◌}
use Rattle.std.proofs.lemmas.Bool.{cases_eq, eq-eqb, eqb-true, ltb-true, lt-ltb, ne_eqb}
use Rattle.std.proofs.lemmas.Int.{ints, to_z-of_z, of_z-to_z}
use Rattle.std.proofs.lemmas.Nat.{le_bytes_8, from_le_bytes-to_le_bytes_8}
use Rattle.std.specs.Int.{w8, w16, w32, w64, cast_signed, cast_unsigned, from_le_bytes, to_le_bytes}
use mir.Val.{SFits}
use Rattle.std.proofs.Math.Facts.{sfits_to_z}
use lib.Signed.{le_z}
use Rattle.pm_values.specs.declared.value.Value.{Value}
use Rattle.pm_values.specs.declared.value.Value.TheVariants.{Bool as Truth, Int as Whole, Day, Millis}
use Rattle.pm_values.specs.declared.column.ColType.{ColType}
use Rattle.pm_values.specs.declared.column.ColType.TheVariants as types
use Rattle.pm_values.specs.Fits.{IsInType, first_day, last_day}
use Rattle.pm_binrow.specs.Row.{bit, slot, tail}
use Rattle.pm_binrow.specs.Reading.{day_in, value_in}
use Rattle.pm_binrow.proofs.Steps.{some_if, some_is, some_then, both, le_z-true, le-le_z}

low_8 : (z : ℤ) → SFits w8 z → cast_unsigned w64 z % 2 ^ 8 ≡ cast_unsigned w8 z
low_8 (pos n) fits = omega arith
low_8 (negsuc n) fits = omega arith

low_16 : (z : ℤ) → SFits w16 z → cast_unsigned w64 z % 2 ^ 16 ≡ cast_unsigned w16 z
low_16 (pos n) fits = omega arith
low_16 (negsuc n) fits = omega arith

low_32 : (z : ℤ) → SFits w32 z → cast_unsigned w64 z % 2 ^ 32 ≡ cast_unsigned w32 z
low_32 (pos n) fits = omega arith
low_32 (negsuc n) fits = omega arith

pub fits_64 : (z : ℤ) → SFits w64 z → cast_unsigned w64 z < 2 ^ 64
fits_64 (pos n) fits = omega arith
fits_64 (negsuc n) fits = omega arith

pub fits_32 : (z : ℤ) → SFits w32 z → cast_unsigned w32 z < 2 ^ 32
fits_32 (pos n) fits = omega arith
fits_32 (negsuc n) fits = omega arith

-- a number of so many bits, read with its sign
read_8 : (n : ℕ) → n < 2 ^ 8 → SFits w8 (cast_signed w8 n) × (cast_unsigned w64 (cast_signed w8 n) % 2 ^ 8 ≡ n)
read_8 n lt =
    let fits : SFits w8 (cast_signed w8 n) = sfits_to_z (search rules) in
    (fits, low_8 (cast_signed w8 n) fits ∙ of_z-to_z w8 n lt)

read_16 : (n : ℕ) → n < 2 ^ 16 → SFits w16 (cast_signed w16 n) × (cast_unsigned w64 (cast_signed w16 n) % 2 ^ 16 ≡ n)
read_16 n lt =
    let fits : SFits w16 (cast_signed w16 n) = sfits_to_z (search rules) in
    (fits, low_16 (cast_signed w16 n) fits ∙ of_z-to_z w16 n lt)

read_32 : (n : ℕ) → n < 2 ^ 32 → SFits w32 (cast_signed w32 n) × (cast_unsigned w64 (cast_signed w32 n) % 2 ^ 32 ≡ n)
read_32 n lt =
    let fits : SFits w32 (cast_signed w32 n) = sfits_to_z (search rules) in
    (fits, low_32 (cast_signed w32 n) fits ∙ of_z-to_z w32 n lt)

read_64 : (n : ℕ) → n < 2 ^ 64 → SFits w64 (cast_signed w64 n) × (cast_unsigned w64 (cast_signed w64 n) ≡ n)
read_64 n lt =
    let fits : SFits w64 (cast_signed w64 n) = sfits_to_z (search rules) in
    (fits, of_z-to_z w64 n lt)

bounded : (bytes : List ℕ) → ((i : ℕ) → get_or bytes i 0 < 256) → from_le_bytes w64 bytes < 2 ^ 64
bounded bytes fits = omega (arith, fits 0, fits 1, fits 2, fits 3, fits 4, fits 5, fits 6, fits 7)

-- ---- from a number to its value

-- the value is in the type's range, has the number in its slot, and no tail
abbrev IsNumber : ColType → ℕ → Value → Type 0
IsNumber kind n value = IsInType kind value × ((at : ℕ) → slot at kind value ≡ to_le_bytes w64 n) × (tail value ≡ [])

module _ (kind : ColType) (n : ℕ) where
  is_number : (x y : Value) → x ≡ y → IsNumber kind n x → IsNumber kind n y
  is_number x y e h = subst (IsNumber kind n) e h

truth_read : (n : ℕ) (value : Value) → value_in types.Boolean n ≡ Some value → IsNumber types.Boolean n value
unfolding value_in slot tail
truth_read n value e = elim (cases_eq n 0) [
  | inl none ↦ is_number types.Boolean n (Truth false) value (some_is (rw (eq-eqb n 0 none) at e)) (tt, λ at. ap (to_le_bytes w64) (sym none), refl)
  | inr some ↦
      let h = some_if (eqb n 1) (Truth true) value (rw (ne_eqb n 0 some) at e) in
      is_number types.Boolean n (Truth true) value h.1 (tt, λ at. ap (to_le_bytes w64) (sym (eqb-true n 1 h.0)), refl)
]

day_read : (n : ℕ) (value : Value) → value_in types.Date n ≡ Some value → IsNumber types.Date n value
unfolding value_in slot tail
day_read n value e =
    let a = some_then (ltb n (2 ^ 32)) (day_in (cast_signed w32 n)) value e in
    let lt = ltb-true n (2 ^ 32) a.0 in
    let day = cast_signed w32 n in
    let b = some_if (le_z first_day day && le_z day last_day) (Day day) value a.1 in
    let c = both (le_z first_day day) (le_z day last_day) b.0 in
    is_number types.Date n (Day day) value b.1
    ((le_z-true first_day day c.0, le_z-true day last_day c.1), λ at. ap (to_le_bytes w64) (of_z-to_z w32 n lt), refl)

pub number_read : (kind : ColType) (n : ℕ) (value : Value) → n < 2 ^ 64 → value_in kind n ≡ Some value → IsNumber kind n value
unfolding value_in slot tail
number_read types.Boolean n value lt e = truth_read n value e
number_read types.TinyInt n value lt e =
    let h = some_if (ltb n (2 ^ 8)) (Whole (cast_signed w8 n)) value e in
    let r = read_8 n (ltb-true n (2 ^ 8) h.0) in
    is_number types.TinyInt n _ value h.1 (r.0, λ at. ap (to_le_bytes w64) r.1, refl)
number_read types.SmallInt n value lt e =
    let h = some_if (ltb n (2 ^ 16)) (Whole (cast_signed w16 n)) value e in
    let r = read_16 n (ltb-true n (2 ^ 16) h.0) in
    is_number types.SmallInt n _ value h.1 (r.0, λ at. ap (to_le_bytes w64) r.1, refl)
number_read types.Int n value lt e =
    let h = some_if (ltb n (2 ^ 32)) (Whole (cast_signed w32 n)) value e in
    let r = read_32 n (ltb-true n (2 ^ 32) h.0) in
    is_number types.Int n _ value h.1 (r.0, λ at. ap (to_le_bytes w64) r.1, refl)
number_read types.BigInt n value lt e =
    let r = read_64 n lt in
    is_number types.BigInt n (Whole (cast_signed w64 n)) value (some_is e) (r.0, λ at. ap (to_le_bytes w64) r.1, refl)
number_read types.Text n value lt e = absurd cc
number_read types.Bytes n value lt e = absurd cc
number_read types.Date n value lt e = day_read n value e
number_read types.Timestamp n value lt e =
    let r = read_64 n lt in
    is_number types.Timestamp n (Millis (cast_signed w64 n)) value (some_is e) (r.0, λ at. ap (to_le_bytes w64) r.1, refl)

-- a slot of eight bytes is that of the value that its number is
pub slot_read : (at : ℕ) (kind : ColType) (place : List ℕ) (value : Value) → length place ≡ 8 → ((i : ℕ) → get_or place i 0 < 256)
    → value_in kind (from_le_bytes w64 place) ≡ Some value → IsInType kind value × (place ≡ slot at kind value) × (tail value ≡ [])
slot_read at kind place value eight fits e =
    let h = number_read kind (from_le_bytes w64 place) value (bounded place fits) e in
    (h.0, sym (h.1 at ∙ le_bytes_8 place (from_le_bytes w64 place) eight fits refl), h.2)

-- ---- from a value to its number

-- the number in the slot is that of the value
pub slot_again : (at : ℕ) (kind : ColType) (value : Value) (n : ℕ) → slot at kind value ≡ to_le_bytes w64 n → n < 2 ^ 64
    → value_in kind n ≡ Some value → value_in kind (from_le_bytes w64 (slot at kind value)) ≡ Some value
slot_again at kind value n is lt e = rw (is, from_le_bytes-to_le_bytes_8 n lt) e

pub truth_again : (b : Bool) → value_in types.Boolean (bit b) ≡ Some (Truth b)
unfolding value_in
truth_again true = refl
truth_again false = refl

pub tiny_again : (z : ℤ) → SFits w8 z → value_in types.TinyInt (cast_unsigned w64 z % 2 ^ 8) ≡ Some (Whole z)
unfolding value_in
tiny_again z fits =
    rw (lt-ltb (cast_unsigned w64 z % 2 ^ 8) (2 ^ 8) (omega arith))
    (ap (λ n. Some (Whole (cast_signed w8 n))) (low_8 z fits) ∙ ap (λ y. Some (Whole y)) (to_z-of_z w8 z fits))

pub small_again : (z : ℤ) → SFits w16 z → value_in types.SmallInt (cast_unsigned w64 z % 2 ^ 16) ≡ Some (Whole z)
unfolding value_in
small_again z fits =
    rw (lt-ltb (cast_unsigned w64 z % 2 ^ 16) (2 ^ 16) (omega arith))
    (ap (λ n. Some (Whole (cast_signed w16 n))) (low_16 z fits) ∙ ap (λ y. Some (Whole y)) (to_z-of_z w16 z fits))

pub int_again : (z : ℤ) → SFits w32 z → value_in types.Int (cast_unsigned w64 z % 2 ^ 32) ≡ Some (Whole z)
unfolding value_in
int_again z fits =
    rw (lt-ltb (cast_unsigned w64 z % 2 ^ 32) (2 ^ 32) (omega arith))
    (ap (λ n. Some (Whole (cast_signed w32 n))) (low_32 z fits) ∙ ap (λ y. Some (Whole y)) (to_z-of_z w32 z fits))

pub big_again : (z : ℤ) → SFits w64 z → value_in types.BigInt (cast_unsigned w64 z) ≡ Some (Whole z)
unfolding value_in
big_again z fits = ap (λ y. Some (Whole y)) (to_z-of_z w64 z fits)

pub millis_again : (z : ℤ) → SFits w64 z → value_in types.Timestamp (cast_unsigned w64 z) ≡ Some (Millis z)
unfolding value_in
millis_again z fits = ap (λ y. Some (Millis y)) (to_z-of_z w64 z fits)

pub day_fits : (day : ℤ) → first_day ≤ℤ day → day ≤ℤ last_day → SFits w32 day
day_fits day first last = omega (arith, ints)

pub day_again : (day : ℤ) → first_day ≤ℤ day → day ≤ℤ last_day → value_in types.Date (cast_unsigned w32 day) ≡ Some (Day day)
unfolding value_in
day_again day first last =
    let fits = day_fits day first last in
    rw (lt-ltb (cast_unsigned w32 day) (2 ^ 32) (fits_32 day fits), to_z-of_z w32 day fits, le-le_z first_day day first, le-le_z day last_day last) refl
