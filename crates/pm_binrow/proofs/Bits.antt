-- Bits as bytes.
use Rattle.std.proofs.Common.{◌≡◌, ℕ, zero, suc, ◌+◌, ◌-◌, ◌*◌, ◌/◌, ◌%◌, ◌^◌, ◌<◌, ◌≤◌, Bool, true, false, eqb}
use Rattle.std.proofs.Common.{List, [], ◌∷◌, ◌++◌, length, take, drop, map, get_or, refl, sym, ap, ◌∙◌, append_assoc, arith, inl, inr}
use Rattle.std.proofs.Math.Nat.{div-div-eq-div-mul, div-one, pow-suc, pow-succ', zero-div}
use Rattle.std.proofs.lemmas.Bool.{cases_lt, eq-eqb, eqb-true, ne_eqb}
use Rattle.std.proofs.lemmas.List.{drop-map, get_or-drop, get_or-map, get_or-take, length-map, take-map}
use Rattle.std.proofs.lemmas.Nat.{pow_pos}
use mir.Val.{bool_byte}
use Rattle.pm_values.specs.declared.value.Value.TheVariants.{Null}
use Rattle.pm_values.specs.Order.{Values}
use Rattle.pm_binrow.specs.Row.{bit, is_null, null_bits, null_bytes, null_count, octet, octets}
use Rattle.pm_binrow.specs.Reading.{are_octets, is_marked}
use Rattle.pm_binrow.proofs.Steps.{true_then}

bit-le : (b : Bool) → bit b ≤ 1
bit-le true = omega arith
bit-le false = omega arith

pub bool_byte-le : (b : Bool) → bool_byte b ≤ 1
bool_byte-le true = omega arith
bool_byte-le false = omega arith

below : (bits : List Bool) (n : ℕ) → length bits ≤ n → octet bits < 2 ^ n
unfolding octet
below [] n le = pow_pos n
below (b ∷ bits) zero le = absurd (omega arith)
below (b ∷ bits) (suc n) le = let h = below bits n (omega arith) in let k = bit-le b in rw pow-suc (omega arith)

-- fewer than eight bits leave room for one more
pub octet_below : (bits : List Bool) → length bits ≤ 7 → octet bits < 128
octet_below bits le = below bits 7 le

-- eight bits are a byte
pub octet_byte : (bits : List Bool) → length bits ≤ 8 → octet bits < 256
octet_byte bits le = below bits 8 le

pub null_count-positive : (k : ℕ) → 8 ≤ null_count k
null_count-positive k = omega arith

-- ---- written

octets_more : (n : ℕ) (bits : List Bool) → 0 < n → octets n bits ≡ octet (take 8 bits) ∷ octets (n - 1) (drop 8 bits)
unfolding octets
octets_more zero bits lt = absurd (omega arith)
octets_more (suc n) bits lt = let e : suc n - 1 ≡ n = omega arith in rw e refl

-- the first eight bits are no column's
pub octets_first : (n : ℕ) (flags : List Bool) → 0 < n → octets n (null_bits flags) ≡ 0 ∷ octets (n - 1) flags
unfolding octet octets
octets_first n flags lt = octets_more n (null_bits flags) lt

pub octets_none : (bits : List Bool) → octets 0 bits ≡ []
unfolding octets
octets_none bits = refl

-- the null byte of eight more values is added
pub octets_pushed : (out : List ℕ) (n m : ℕ) (values eight later : Values) (byte : ℕ) (total : List ℕ) → n ≡ m + 1
    → eight ≡ take 8 values → later ≡ drop 8 values → byte ≡ octet (map is_null eight)
    → out ++ octets n (map is_null values) ≡ total → (out ++ byte ∷ []) ++ octets m (map is_null later) ≡ total
octets_pushed out n m values eight later byte total next first after is so_far =
    let e : n - 1 ≡ m = omega arith in
    let more : octets n (map is_null values) ≡ octet (take 8 (map is_null values)) ∷ octets m (drop 8 (map is_null values)) =
    rw e at (octets_more n (map is_null values) (omega arith)) in
    let here : octet (take 8 (map is_null values)) ≡ byte = ap octet (take-map is_null 8 values) ∙ sym (rw first at is) in
    let there : drop 8 (map is_null values) ≡ map is_null later = drop-map is_null 8 values ∙ sym (ap (map is_null) after) in
    append_assoc out (byte ∷ []) (octets m (map is_null later))
    ∙ ap (λ (bytes : List ℕ). out ++ bytes) (sym (rw (here, there) at more)) ∙ so_far

-- ---- compared

pub are_octets-none : (bits : List Bool) → are_octets [] bits ≡ true
unfolding are_octets
are_octets-none bits = refl

-- the first null byte is 0, and the others are those of the columns
pub zero_first : (nulls : List ℕ) (b : ℕ) (bytes : List ℕ) (flags : List Bool) → nulls ≡ b ∷ bytes → b ≡ 0
    → are_octets nulls (null_bits flags) ≡ are_octets bytes flags
unfolding octet are_octets
zero_first nulls b bytes flags parts is = rw (parts, is) refl

pub other_first : (nulls : List ℕ) (b : ℕ) (bytes : List ℕ) (flags : List Bool) → nulls ≡ b ∷ bytes → (b ≡ 0 → ⊥)
    → are_octets nulls (null_bits flags) ≡ false
unfolding octet are_octets
other_first nulls b bytes flags parts is_not = rw (parts, ne_eqb b 0 is_not) refl

octet_of_eight : (values eight : Values) → eight ≡ take 8 values → octet (take 8 (map is_null values)) ≡ octet (map is_null eight)
octet_of_eight values eight first = ap octet (take-map is_null 8 values ∙ sym (ap (map is_null) first))

-- the null byte of eight values is theirs
pub same_octet : (b : ℕ) (bytes : List ℕ) (values eight later : Values) → eight ≡ take 8 values → later ≡ drop 8 values
    → b ≡ octet (map is_null eight) → are_octets (b ∷ bytes) (map is_null values) ≡ are_octets bytes (map is_null later)
unfolding are_octets
same_octet b bytes values eight later first after is =
    let e = is ∙ sym (octet_of_eight values eight first) in
    rw (eq-eqb b _ e) (ap (are_octets bytes) (drop-map is_null 8 values ∙ sym (ap (map is_null) after)))

pub other_octet : (b : ℕ) (bytes : List ℕ) (values eight : Values) → eight ≡ take 8 values
    → (b ≡ octet (map is_null eight) → ⊥) → are_octets (b ∷ bytes) (map is_null values) ≡ false
unfolding are_octets
other_octet b bytes values eight first is_not =
    rw (ne_eqb b _ (λ e. is_not (e ∙ octet_of_eight values eight first))) refl

are_octets-is : (bytes : List ℕ) (bits : List Bool) → are_octets bytes bits ≡ true → bytes ≡ octets (length bytes) bits
unfolding are_octets octets
are_octets-is [] bits e = refl
are_octets-is (b ∷ bytes) bits e =
    let h = true_then (eqb b (octet (take 8 bits))) (are_octets bytes (drop 8 bits)) e in
    let first = eqb-true b (octet (take 8 bits)) h.0 in
    let later = are_octets-is bytes (drop 8 bits) h.1 in
    cc

-- null bytes of these flags are those
pub null_bytes-read : (nulls : List ℕ) (flags : List Bool) → length nulls ≡ null_count (length flags)
    → are_octets nulls (null_bits flags) ≡ true → nulls ≡ null_bytes flags
null_bytes-read nulls flags many e =
    are_octets-is nulls (null_bits flags) e ∙ ap (λ (n : ℕ). octets n (null_bits flags)) many

are_octets-again : (n : ℕ) (bits : List Bool) → are_octets (octets n bits) bits ≡ true
unfolding are_octets octets
are_octets-again zero bits = refl
are_octets-again (suc n) bits = rw (eq-eqb (octet (take 8 bits)) (octet (take 8 bits)) refl) (are_octets-again n (drop 8 bits))

pub null_bytes-again : (flags : List Bool) → are_octets (null_bytes flags) (null_bits flags) ≡ true
null_bytes-again flags = are_octets-again (null_count (length flags)) (null_bits flags)

-- ---- one bit

halved : (b : Bool) (n : ℕ) → (bit b + 2 * n) / 2 ≡ n
halved true n = omega arith
halved false n = omega arith

lowest : (b : Bool) (n : ℕ) → (bit b + 2 * n) % 2 ≡ bit b
lowest true n = omega arith
lowest false n = omega arith

octet_bit : (bits : List Bool) (i : ℕ) → octet bits / 2 ^ i % 2 ≡ bit (get_or bits i false)
unfolding octet
octet_bit [] i = rw zero-div refl
octet_bit (b ∷ bits) zero = rw div-one (lowest b (octet bits))
octet_bit (b ∷ bits) (suc i) =
    rw (pow-succ' 2 i, ← (div-div-eq-div-mul (bit b + 2 * octet bits) 2 (2 ^ i)), halved b (octet bits)) (octet_bit bits i)

bit_is : (b : Bool) → eqb (bit b) 1 ≡ b
bit_is true = refl
bit_is false = refl

marked : (n : ℕ) (bits : List Bool) (i : ℕ) → i < 8 * n → is_marked (octets n bits) i ≡ get_or bits i false
unfolding octets
marked zero bits i lt = absurd (omega arith)
marked (suc n) bits i lt = elim (cases_lt i 8) [
  | inl low ↦
      let byte : i / 8 ≡ 0 = omega arith in
      let place : i % 8 ≡ i = omega arith in
      rw (byte, place, octet_bit (take 8 bits) i, get_or-take 8 bits i false low) (bit_is (get_or bits i false))
  | inr high ↦
      let byte : i / 8 ≡ suc ((i - 8) / 8) = omega arith in
      let place : i % 8 ≡ (i - 8) % 8 = omega arith in
      let later : 8 + (i - 8) ≡ i = omega arith in
      rw (byte, place) (marked n (drop 8 bits) (i - 8) (omega arith) ∙ get_or-drop 8 bits (i - 8) false ∙ ap (λ (j : ℕ). get_or bits j false) later)
]

-- the bit of a column is whether its value is null
pub null_marked : (values : Values) (i : ℕ) → i < length values → is_marked (null_bytes (map is_null values)) (8 + i) ≡ is_null (get_or values i Null)
null_marked values i lt =
    let flags = map is_null values in
    let many : length flags ≡ length values = length-map values is_null in
    let room : 8 + i < 8 * null_count (length flags) = omega arith in
    marked (null_count (length flags)) (null_bits flags) (8 + i) room
    ∙ sym (get_or-drop 8 (null_bits flags) i false) ∙ get_or-map is_null values i Null false lt
