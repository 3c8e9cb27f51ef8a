-- Numbers in groups: reading them, and the relation.
use Rattle.std.proofs.Common.{◌≡◌, ℕ, zero, suc, ◌+◌, ◌-◌, ◌*◌, ◌%◌, ◌^◌, ◌<◌, ◌≤◌, ◌⊎◌, inl, inr}
use Rattle.std.proofs.Common.{List, [], ◌∷◌, Option, Some, None, refl, sym, ap, ◌∙◌, arith}
use Rattle.std.specs.Prelude.{option_map}
use Rattle.std.proofs.lemmas.Nat.{pow-add, pow_pos, mul-le}
use Rattle.std.proofs.lemmas.Bool.{le-ltb, lt-ltb, le-leb, lt-leb}
use Rattle.std.proofs.lemmas.Option.{some_pair_parts}
use Rattle.std.proofs.Math.Pow.{pow_mono}
use Rattle.pm_avro_data.specs.Reading.{above, byte_at, number_at}

pub shift_fits : (g k : ℕ) → (g + 1) * 2 ^ k ≤ 2 ^ 64 → g * 2 ^ k % 2 ^ 64 ≡ g * 2 ^ k
shift_fits g k h = omega (arith, pow_pos k)

-- what was read before, which fills so many bits, and what is still read
abbrev pub with_low : ℕ → ℕ → Option (ℕ × List ℕ) → Option (ℕ × List ℕ)
with_low low bits = option_map (λ x. (low + x.0 * 2 ^ bits, x.1))

raised : (low b n m s : ℕ) → m ≡ s * 128 → low + (b + 128 * n) * s ≡ low + b * s + n * m
raised low b n m s e = rw e (omega arith)

pub with_low-above : (low bits b : ℕ) (o : Option (ℕ × List ℕ)) → with_low low bits (above b o) ≡ with_low (low + (b - 128) * 2 ^ bits) (bits + 7) o
with_low-above low bits b None = refl
with_low-above low bits b (Some x) = ap (λ n. Some (n, x.1)) (raised low (b - 128) x.0 (2 ^ (bits + 7)) (2 ^ bits) (pow-add 2 bits 7))

number_at-nil : (most top : ℕ) → number_at most top [] ≡ None
unfolding number_at
number_at-nil zero top = refl
number_at-nil (suc p) top = refl

pub number_at-over : (top b : ℕ) (text : List ℕ) → top < b → number_at 1 top (b ∷ text) ≡ None
unfolding number_at
number_at-over top b text h = rw (lt-leb b top h) refl

pub number_at-last : (most top b : ℕ) (text : List ℕ) → 0 < most → b < 128 → (most ≡ 1 → b ≤ top) → number_at most top (b ∷ text) ≡ Some (b, text)
unfolding number_at
number_at-last zero top b text some low fits = absurd (omega arith)
number_at-last (suc zero) top b text some low fits = rw (le-leb b top (fits refl)) refl
number_at-last (suc (suc p)) top b text some low fits = rw (lt-ltb b 128 low) refl

pub number_at-more : (p top b : ℕ) (text : List ℕ) → 128 ≤ b → b < 256 → number_at (suc (suc p)) top (b ∷ text) ≡ above b (number_at (suc p) top text)
unfolding number_at
number_at-more p top b text h byte = rw (le-ltb b 128 h, lt-ltb b 256 byte) refl

pub number_at-wide : (p top b : ℕ) (text : List ℕ) → 256 ≤ b → number_at (suc (suc p)) top (b ∷ text) ≡ None
unfolding number_at
number_at-wide p top b text h = rw (le-ltb b 128 (omega arith), le-ltb b 256 h) refl

-- ---- a turn of the loop

pub ends_short : (low bits most top : ℕ) (text : List ℕ) (total : Option (ℕ × List ℕ)) → byte_at text ≡ None → with_low low bits (number_at most top text) ≡ total → total ≡ None
ends_short low bits most top [] total none so_far = sym so_far ∙ rw (number_at-nil most top) refl
ends_short low bits most top (b ∷ text) total none so_far = absurd cc

pub ends_over : (low bits most top b : ℕ) (text after : List ℕ) (total : Option (ℕ × List ℕ)) → most ≡ 1 → top < b → byte_at text ≡ Some (b, after) → with_low low bits (number_at most top text) ≡ total → total ≡ None
ends_over low bits most top b [] after total one over some so_far = absurd cc
ends_over low bits most top b (c ∷ text) after total one over some so_far =
    let p = some_pair_parts c b text after some in
    sym so_far ∙ rw (one, p.0, number_at-over top b text over) refl

pub ends_here : (low bits most top b : ℕ) (text after : List ℕ) (total : Option (ℕ × List ℕ)) → 0 < most → b < 128 → (most ≡ 1 → b ≤ top) → byte_at text ≡ Some (b, after) → with_low low bits (number_at most top text) ≡ total → total ≡ Some (low + b % 128 * 2 ^ bits, after)
ends_here low bits most top b [] after total some_left small fits some so_far = absurd cc
ends_here low bits most top b (c ∷ text) after total some_left small fits some so_far =
    let p = some_pair_parts c b text after some in
    let r : b % 128 ≡ b = omega arith in
    sym so_far ∙ rw (p.0, p.1, r, number_at-last most top b after some_left small fits) refl

pub goes_on : (low bits most top b : ℕ) (text after : List ℕ) (total : Option (ℕ × List ℕ)) → 1 < most → 128 ≤ b → b < 256 → byte_at text ≡ Some (b, after) → with_low low bits (number_at most top text) ≡ total → with_low (low + b % 128 * 2 ^ bits) (bits + 7) (number_at (most - 1) top after) ≡ total
goes_on low bits most top b [] after total more high fits some so_far = absurd cc
goes_on low bits most top b (c ∷ text) after total more high fits some so_far =
    let p = some_pair_parts c b text after some in
    let r : b % 128 ≡ b - 128 = omega arith in
    let k : most ≡ suc (suc (most - 2)) = omega arith in
    let j : suc (most - 2) ≡ most - 1 = omega arith in
    let m : number_at most top (b ∷ after) ≡ above b (number_at (most - 1) top after) =
    ap (λ n. number_at n top (b ∷ after)) k ∙ number_at-more (most - 2) top b after high fits ∙ ap (λ n. above b (number_at n top after)) j in
    rw (r, ← with_low-above low bits b (number_at (most - 1) top after), ← m, ← p.1, ← p.0) so_far

pub ends_none : (low bits most top : ℕ) (text : List ℕ) (total : Option (ℕ × List ℕ)) → most ≡ 0 → with_low low bits (number_at most top text) ≡ total → None ≡ total
unfolding number_at
ends_none low bits most top text total none so_far = rw none at so_far

-- ---- the bounds

-- the room of group i, where the number's groups are at most so many
pub record IsRoom (g i most top : ℕ) : Type 0 where
  pub whole : (g + 1) * 2 ^ (7 * i) ≤ (top + 1) * 2 ^ (7 * (most - 1))

-- a group below the last
pub room_below : (g i most top : ℕ) → g < 128 → i + 1 < most → IsRoom g i most top
room_below g i most top small below =
    let a = mul-le (g + 1) (2 ^ (7 * i)) 128 (2 ^ (7 * i)) (omega arith) (omega arith) in
    let e = pow-add 2 (7 * i) 7 in
    let le : 7 * i + 7 ≤ 7 * (most - 1) = omega arith in
    let m : 2 ^ (7 * i + 7) ≤ 2 ^ (7 * (most - 1)) = pow_mono le in
    let w = mul-le 1 (2 ^ (7 * (most - 1))) (top + 1) (2 ^ (7 * (most - 1))) (omega arith) (omega arith) in
    record { whole = omega arith }

-- the last group
pub room_last : (b i most top : ℕ) → b ≤ top → i + 1 ≡ most → IsRoom (b % 128) i most top
room_last b i most top small is =
    let e : most - 1 ≡ i = omega arith in
    let a = mul-le (b % 128 + 1) (2 ^ (7 * i)) (top + 1) (2 ^ (7 * i)) (omega arith) (omega arith) in
    let f : (b % 128 + 1) * 2 ^ (7 * i) ≤ (top + 1) * 2 ^ (7 * (most - 1)) = rw e a in
    record { whole = f }

pub room : (b i most top : ℕ) → i < most → ((i + 1 ≡ most) × (b ≤ top)) ⊎ (i + 1 ≡ most → ⊥) → IsRoom (b % 128) i most top
room b i most top lt (inl h) = room_last b i most top h.1 h.0
room b i most top lt (inr h) = room_below (b % 128) i most top (omega arith) (omega arith)

-- one more group
pub grows : (low g bits : ℕ) → low < 2 ^ bits → g < 128 → low + g * 2 ^ bits < 2 ^ (bits + 7)
grows low g bits small group =
    let a = mul-le (g + 1) (2 ^ bits) 128 (2 ^ bits) (omega arith) (omega arith) in
    omega (arith, pow-add 2 bits 7)

pub sum_below : (low g i most top : ℕ) → low < 2 ^ (7 * i) → IsRoom g i most top → low + g * 2 ^ (7 * i) < (top + 1) * 2 ^ (7 * (most - 1))
sum_below low g i most top small fits = omega (arith, fits.whole)
