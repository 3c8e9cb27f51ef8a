-- What is left of an integer in a type's bits.
use Rattle.std.proofs.Common.{◌≡◌, ℕ, suc, ◌+◌, ◌-◌, ◌*◌, ◌^◌, ◌<◌, ◌≤◌, ℤ, pos, negsuc, ◌-ℤ◌, ◌*ℤ◌, unsigned_abs, true, false, lit<, lit≤, refl, sym, ap, subst, ◌∙◌, arith}
use Rattle.std.specs.Int.{Width, w8, w16, w32, w64, int_wrap, int_rem_euclid, cast_signed}
use Rattle.std.proofs.lemmas.Int.{to_z-of_z, ints}
use mir.Val.{SFits, bits, hbits, of_z, to_z}
use mir.Syntax.{w128}
use lib.Signed.{lt_z}
use Rattle.std.proofs.Math.Facts.{to_z-neg}
use Rattle.std.proofs.lemmas.Bool.Decides.{nat_tests}
use Rattle.pm_values.specs.declared.column.ColType.{ColType}
use Rattle.pm_values.specs.declared.column.ColType.TheVariants.{Boolean, TinyInt, SmallInt, Int, BigInt, Text, Bytes, Date, Timestamp}
use Rattle.pm_model_history.specs.ColumnValue.{width_of}
use Rattle.pm_columns.specs.Wrapping.{half_of}

-- the remainder of a division as a number
rem : ℤ → ℕ → ℕ
rem n d = unsigned_abs (int_rem_euclid n (pos d))

rem-is : (n : ℤ) (d : ℕ) → int_rem_euclid n (pos d) ≡ pos (rem n d)
unfolding rem
rem-is (pos n) d = refl
rem-is (negsuc n) d = refl

int_wrap-rem : (w : Width) (n : ℤ) → int_wrap w n ≡ cast_signed w (rem n (2 ^ bits w))
unfolding int_wrap rem
int_wrap-rem w n = refl

bits-half : (kind : ColType) → 2 ^ bits (width_of kind) ≡ 2 * half_of kind
bits-half Boolean = refl
bits-half TinyInt = refl
bits-half SmallInt = refl
bits-half Int = refl
bits-half BigInt = refl
bits-half Text = refl
bits-half Bytes = refl
bits-half Date = refl
bits-half Timestamp = refl

-- what the steps of the code come to, where the remainder is below the half
low : (kind : ColType) (k : ℕ) → k < half_of kind → to_z w64 (of_z w64 (to_z w128 (of_z w128 (pos k)))) ≡ to_z (width_of kind) k
low Boolean k below = omega (arith, ints)
low TinyInt k below = omega (arith, ints)
low SmallInt k below = omega (arith, ints)
low Int k below = omega (arith, ints)
low BigInt k below = omega (arith, ints)
low Text k below = omega (arith, ints)
low Bytes k below = omega (arith, ints)
low Date k below = omega (arith, ints)
low Timestamp k below = omega (arith, ints)

difference : (k d m : ℕ) → k + suc m ≡ d → pos k -ℤ pos d ≡ negsuc m
difference k d m e = omega (arith, ints)

fits_pos : (k : ℕ) → k < 2 ^ 127 → SFits w128 (pos k)
fits_pos k below = record { sfits = below }

fits_low : (m : ℕ) → m < 2 ^ 63 → SFits w128 (negsuc m)
fits_low m below = record { sfits = omega arith }

fits_lower : (m : ℕ) → m < 2 ^ 63 → SFits w64 (negsuc m)
fits_lower m below = record { sfits = below }

-- and where it isn't, at a width
high_at : (w : Width) (k h m : ℕ) → 2 ^ hbits w ≡ h → 2 ^ bits w ≡ 2 * h → h ≤ 2 ^ 63 → k + suc m ≡ 2 * h → h ≤ k → to_z w64 (of_z w64 (to_z w128 (of_z w128 (to_z w128 (of_z w128 (pos k)) -ℤ pos (2 * h))))) ≡ to_z w k
high_at w k h m half whole most sum above =
    let small : k < 2 ^ 127 = omega arith in
    let little : m < 2 ^ 63 = omega arith in
    let in_half : m < 2 ^ hbits w = subst (λ n. m < n) (sym half) (omega arith) in
    let from_top : 2 ^ bits w - suc m ≡ k = ap (λ n. n - suc m) whole ∙ rest k m (2 * h) sum in
    ap (λ z. to_z w64 (of_z w64 (to_z w128 (of_z w128 (z -ℤ pos (2 * h)))))) (to_z-of_z w128 (pos k) (fits_pos k small))
    ∙ ap (λ z. to_z w64 (of_z w64 (to_z w128 (of_z w128 z)))) (difference k (2 * h) m sum)
    ∙ ap (λ z. to_z w64 (of_z w64 z)) (to_z-of_z w128 (negsuc m) (fits_low m little))
    ∙ to_z-of_z w64 (negsuc m) (fits_lower m little)
    ∙ sym (to_z-neg w m in_half) ∙ ap (to_z w) from_top
  where
    rest : (k m d : ℕ) → k + suc m ≡ d → d - suc m ≡ k
    rest k m d e = omega arith

left_over : (k d : ℕ) → k < d → k + suc (d - suc k) ≡ d
left_over k d below = omega arith

high : (kind : ColType) (k : ℕ) → half_of kind ≤ k → k < 2 * half_of kind → to_z w64 (of_z w64 (to_z w128 (of_z w128 (to_z w128 (of_z w128 (pos k)) -ℤ pos (2 * half_of kind))))) ≡ to_z (width_of kind) k
high Boolean k above below = high_at w64 k (2 ^ 63) (2 * 2 ^ 63 - suc k) refl refl (lit≤ tt) (left_over k (2 * 2 ^ 63) below) above
high TinyInt k above below = high_at w8 k (2 ^ 7) (2 * 2 ^ 7 - suc k) refl refl (lit≤ tt) (left_over k (2 * 2 ^ 7) below) above
high SmallInt k above below = high_at w16 k (2 ^ 15) (2 * 2 ^ 15 - suc k) refl refl (lit≤ tt) (left_over k (2 * 2 ^ 15) below) above
high Int k above below = high_at w32 k (2 ^ 31) (2 * 2 ^ 31 - suc k) refl refl (lit≤ tt) (left_over k (2 * 2 ^ 31) below) above
high BigInt k above below = high_at w64 k (2 ^ 63) (2 * 2 ^ 63 - suc k) refl refl (lit≤ tt) (left_over k (2 * 2 ^ 63) below) above
high Text k above below = high_at w64 k (2 ^ 63) (2 * 2 ^ 63 - suc k) refl refl (lit≤ tt) (left_over k (2 * 2 ^ 63) below) above
high Bytes k above below = high_at w64 k (2 ^ 63) (2 * 2 ^ 63 - suc k) refl refl (lit≤ tt) (left_over k (2 * 2 ^ 63) below) above
high Date k above below = high_at w64 k (2 ^ 63) (2 * 2 ^ 63 - suc k) refl refl (lit≤ tt) (left_over k (2 * 2 ^ 63) below) above
high Timestamp k above below = high_at w64 k (2 ^ 63) (2 * 2 ^ 63 - suc k) refl refl (lit≤ tt) (left_over k (2 * 2 ^ 63) below) above

is_below : (kind : ColType) (k : ℕ) → k < 2 * half_of kind → lt_z (to_z w128 (of_z w128 (pos k))) (to_z w128 (of_z w128 (pos (half_of kind)))) ≡ true → k < half_of kind
is_below kind k small is = grind (arith, ints, nat_tests)

is_above : (kind : ColType) (k : ℕ) → k < 2 * half_of kind → lt_z (to_z w128 (of_z w128 (pos k))) (to_z w128 (of_z w128 (pos (half_of kind)))) ≡ false → half_of kind ≤ k
is_above kind k small is = grind (arith, ints, nat_tests)

-- twice the half, as the code computes it
twice-is : (kind : ColType) → to_z w128 (of_z w128 (pos 2 *ℤ to_z w128 (of_z w128 (pos (half_of kind))))) ≡ pos (2 * half_of kind)
twice-is Boolean = refl
twice-is TinyInt = refl
twice-is SmallInt = refl
twice-is Int = refl
twice-is BigInt = refl
twice-is Text = refl
twice-is Bytes = refl
twice-is Date = refl
twice-is Timestamp = refl

-- the remainder, as a number
remainder : (kind : ColType) (n half rest : ℤ) → SFits w128 n → half ≡ pos (half_of kind) → rest ≡ int_rem_euclid (to_z w128 (of_z w128 n)) (to_z w128 (of_z w128 (pos 2 *ℤ to_z w128 (of_z w128 half)))) → rest ≡ pos (rem n (2 * half_of kind))
remainder kind n half rest fits is value =
    value ∙ ap (λ m. int_rem_euclid m (to_z w128 (of_z w128 (pos 2 *ℤ to_z w128 (of_z w128 half))))) (to_z-of_z w128 n fits)
    ∙ ap (λ h. int_rem_euclid n (to_z w128 (of_z w128 (pos 2 *ℤ to_z w128 (of_z w128 h))))) is ∙ ap (int_rem_euclid n) (twice-is kind) ∙ rem-is n (2 * half_of kind)

wrap-is : (kind : ColType) (n : ℤ) → to_z (width_of kind) (rem n (2 * half_of kind)) ≡ int_wrap (width_of kind) n
wrap-is kind n = ap (λ e. to_z (width_of kind) (rem n e)) (sym (bits-half kind)) ∙ sym (int_wrap-rem (width_of kind) n)

rem-below : (n : ℤ) (d : ℕ) → 0 < d → rem n d < d
unfolding rem
rem-below (pos n) d some = omega arith
rem-below (negsuc n) d some = omega arith

some_half : (kind : ColType) → 0 < 2 * half_of kind
some_half Boolean = lit< tt
some_half TinyInt = lit< tt
some_half SmallInt = lit< tt
some_half Int = lit< tt
some_half BigInt = lit< tt
some_half Text = lit< tt
some_half Bytes = lit< tt
some_half Date = lit< tt
some_half Timestamp = lit< tt

pub wrapped-low : (kind : ColType) (n half rest : ℤ) → SFits w128 n → half ≡ pos (half_of kind) → rest ≡ int_rem_euclid (to_z w128 (of_z w128 n)) (to_z w128 (of_z w128 (pos 2 *ℤ to_z w128 (of_z w128 half))))
    → lt_z (to_z w128 (of_z w128 rest)) (to_z w128 (of_z w128 half)) ≡ true → to_z w64 (of_z w64 (to_z w128 (of_z w128 rest))) ≡ int_wrap (width_of kind) n
wrapped-low kind n half rest fits is value test =
    let k : ℕ = rem n (2 * half_of kind) in
    let as_number : rest ≡ pos k = remainder kind n half rest fits is value in
    let small : k < 2 * half_of kind = rem-below n (2 * half_of kind) (some_half kind) in
    let tested : lt_z (to_z w128 (of_z w128 (pos k))) (to_z w128 (of_z w128 (pos (half_of kind)))) ≡ true =
    ap (λ r. lt_z (to_z w128 (of_z w128 r)) (to_z w128 (of_z w128 (pos (half_of kind))))) (sym as_number) ∙ ap (λ h. lt_z (to_z w128 (of_z w128 rest)) (to_z w128 (of_z w128 h))) (sym is) ∙ test in
    ap (λ r. to_z w64 (of_z w64 (to_z w128 (of_z w128 r)))) as_number ∙ low kind k (is_below kind k small tested) ∙ wrap-is kind n

pub wrapped-high : (kind : ColType) (n half rest : ℤ) → SFits w128 n → half ≡ pos (half_of kind) → rest ≡ int_rem_euclid (to_z w128 (of_z w128 n)) (to_z w128 (of_z w128 (pos 2 *ℤ to_z w128 (of_z w128 half))))
    → lt_z (to_z w128 (of_z w128 rest)) (to_z w128 (of_z w128 half)) ≡ false
    → to_z w64 (of_z w64 (to_z w128 (of_z w128 (to_z w128 (of_z w128 rest) -ℤ to_z w128 (of_z w128 (pos 2 *ℤ to_z w128 (of_z w128 half))))))) ≡ int_wrap (width_of kind) n
wrapped-high kind n half rest fits is value test =
    let k : ℕ = rem n (2 * half_of kind) in
    let as_number : rest ≡ pos k = remainder kind n half rest fits is value in
    let small : k < 2 * half_of kind = rem-below n (2 * half_of kind) (some_half kind) in
    let tested : lt_z (to_z w128 (of_z w128 (pos k))) (to_z w128 (of_z w128 (pos (half_of kind)))) ≡ false =
    ap (λ r. lt_z (to_z w128 (of_z w128 r)) (to_z w128 (of_z w128 (pos (half_of kind))))) (sym as_number) ∙ ap (λ h. lt_z (to_z w128 (of_z w128 rest)) (to_z w128 (of_z w128 h))) (sym is) ∙ test in
    ap (λ r. to_z w64 (of_z w64 (to_z w128 (of_z w128 (to_z w128 (of_z w128 r) -ℤ to_z w128 (of_z w128 (pos 2 *ℤ to_z w128 (of_z w128 half)))))))) as_number
    ∙ ap (λ h. to_z w64 (of_z w64 (to_z w128 (of_z w128 (to_z w128 (of_z w128 (pos k)) -ℤ to_z w128 (of_z w128 (pos 2 *ℤ to_z w128 (of_z w128 h)))))))) is
    ∙ ap (λ d. to_z w64 (of_z w64 (to_z w128 (of_z w128 (to_z w128 (of_z w128 (pos k)) -ℤ d))))) (twice-is kind)
    ∙ high kind k (is_above kind k small tested) small ∙ wrap-is kind n
