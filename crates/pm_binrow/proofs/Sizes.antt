-- How many bytes the parts of a row take.
use Rattle.std.proofs.Common.{◌≡◌, ℕ, zero, suc, ◌+◌, ◌-◌, ◌*◌, ◌%◌, ◌<◌, ◌≤◌, Bool}
use Rattle.std.proofs.Common.{List, [], ◌∷◌, ◌++◌, length, drop, map, refl, ap, ◌∙◌, arith, inl, inr}
use Rattle.std.proofs.lemmas.Bool.{cases_lt, lt-ltb, le-ltb}
use Rattle.std.proofs.lemmas.List.{length-append, length-replicate, length-map}
use Rattle.std.specs.Int.{w32, to_le_bytes}
use Rattle.std.specs.List.{flat_map}
use Rattle.pm_values.specs.declared.value.Value.{Value}
use Rattle.pm_values.specs.declared.value.Value.TheVariants.{Null, Bool as Truth, Int as Whole, Text as Words}
use Rattle.pm_values.specs.declared.value.Value.TheVariants.{Bytes as Octets, Day, Millis}
use Rattle.pm_values.specs.declared.column.ColType.{ColType}
use Rattle.pm_values.specs.Order.{Values}
use Rattle.pm_binrow.specs.Row.{bytes_of, fixed_size, is_null, null_bytes, null_count, octets, padded, slot, slots, tail}
use Rattle.pm_binrow.specs.Row.{text_slot, text_tail, zeros}

pub length-zeros : (n : ℕ) → length (zeros n) ≡ n
length-zeros n = length-replicate n 0

pub length-octets : (n : ℕ) (bits : List Bool) → length (octets n bits) ≡ n
unfolding octets
length-octets zero bits = refl
length-octets (suc n) bits = ap suc (length-octets n (drop 8 bits))

-- ---- a text

-- a text of more than seven bytes has a tail
pub text_tail-long : (text : List ℕ) → 7 < length text → text_tail text ≡ text ++ zeros (padded (length text) - length text)
unfolding text_tail
text_tail-long text lt = rw (lt-ltb 7 (length text) lt) refl

pub text_tail-short : (text : List ℕ) → length text ≤ 7 → text_tail text ≡ []
unfolding text_tail
text_tail-short text le = rw (le-ltb 7 (length text) le) refl

pub text_slot-long : (at : ℕ) (text : List ℕ) → 7 < length text → text_slot at text ≡ to_le_bytes w32 (length text) ++ to_le_bytes w32 at
unfolding text_slot
text_slot-long at text lt = rw (lt-ltb 7 (length text) lt) refl

pub text_slot-short : (at : ℕ) (text : List ℕ) → length text ≤ 7 → text_slot at text ≡ text ++ (zeros (7 - length text) ++ (128 + length text) ∷ [])
unfolding text_slot
text_slot-short at text le = rw (le-ltb 7 (length text) le) refl

padded-le : (n : ℕ) → n ≤ padded n
padded-le n = omega arith

-- a tail is as long as its text, filled up
pub length-text_tail : (text : List ℕ) → 7 < length text → length (text_tail text) ≡ padded (length text)
length-text_tail text lt =
    ap length (text_tail-long text lt) ∙ length-append text _
    ∙ omega (arith, length-zeros (padded (length text) - length text), padded-le (length text))

-- a tail is as long as its text, or the text is short
pub text_tail-le : (text : List ℕ) → length text ≤ length (text_tail text) + 7
text_tail-le text =
    elim (cases_lt 7 (length text)) [ inl lt ↦ omega (arith, length-text_tail text lt, padded-le (length text)) | inr le ↦ omega arith ]

pub length-text_slot : (at : ℕ) (text : List ℕ) → length (text_slot at text) ≡ 8
length-text_slot at text = elim (cases_lt 7 (length text)) [
  | inl lt ↦ ap length (text_slot-long at text lt)
  | inr le ↦ ap length (text_slot-short at text le) ∙ length-append text _
      ∙ ap (λ (n : ℕ). length text + n) (length-append (zeros (7 - length text)) _ ∙ ap (λ (n : ℕ). n + 1) (length-zeros (7 - length text)))
      ∙ omega arith
]

-- ---- a value

pub length-slot : (at : ℕ) (kind : ColType) (value : Value) → length (slot at kind value) ≡ 8
unfolding slot
length-slot at kind Null = refl
length-slot at kind (Truth b) = refl
length-slot at kind (Whole n) = refl
length-slot at kind (Day d) = refl
length-slot at kind (Millis m) = refl
length-slot at kind (Words text) = length-text_slot at text
length-slot at kind (Octets bytes) = length-text_slot at bytes

text_tail-words : (text : List ℕ) → length (text_tail text) % 8 ≡ 0
text_tail-words text = elim (cases_lt 7 (length text)) [
  | inl lt ↦ omega (arith, length-text_tail text lt)
  | inr le ↦ omega (arith, ap length (text_tail-short text le))
]

tail-words : (value : Value) → length (tail value) % 8 ≡ 0
unfolding tail
tail-words Null = refl
tail-words (Truth b) = refl
tail-words (Whole n) = refl
tail-words (Day d) = refl
tail-words (Millis m) = refl
tail-words (Words text) = text_tail-words text
tail-words (Octets bytes) = text_tail-words bytes

-- ---- a row

pub length-slots : (at : ℕ) (kinds : List ColType) (values : Values) → length values ≡ length kinds → length (slots at kinds values) ≡ 8 * length kinds
unfolding slots
length-slots at [] values same = refl
length-slots at (kind ∷ kinds) [] same = absurd (omega arith)
length-slots at (kind ∷ kinds) (value ∷ values) same =
    length-append (slot at kind value) _
    ∙ omega (arith, length-slot at kind value, length-slots (at + length (tail value)) kinds values (omega arith))

tails-words : (values : Values) → length (flat_map tail values) % 8 ≡ 0
tails-words [] = refl
tails-words (value ∷ values) =
    omega (arith, length-append (tail value) (flat_map tail values), tail-words value, tails-words values)

pub length-bytes_of : (kinds : List ColType) (values : Values) → length values ≡ length kinds
    → length (bytes_of kinds values) ≡ 4 + fixed_size (length kinds) + length (flat_map tail values)
length-bytes_of kinds values same =
    let nulls : length (null_bytes (map is_null values)) ≡ null_count (length values) =
    length-octets (null_count (length (map is_null values))) _ ∙ ap null_count (length-map values is_null) in
    let places = length-slots (fixed_size (length kinds)) kinds values same in
    let all = length-append (null_bytes (map is_null values)) (slots (fixed_size (length kinds)) kinds values ++ flat_map tail values) in
    let rest = length-append (slots (fixed_size (length kinds)) kinds values) (flat_map tail values) in
    let count : null_count (length values) ≡ null_count (length kinds) = ap null_count same in
    omega arith

pub words-bytes_of : (kinds : List ColType) (values : Values) → length values ≡ length kinds
    → (4 ≤ length (bytes_of kinds values)) × (length (bytes_of kinds values) % 4 ≡ 0)
words-bytes_of kinds values same =
    let size = length-bytes_of kinds values same in
    let whole = tails-words values in
    (omega arith, omega arith)
