-- The bytes of a row are bytes.
use Rattle.std.proofs.Common.{◌≡◌, ℕ, zero, suc, ◌+◌, ◌-◌, ◌<◌, Bool, true, ltb}
use Rattle.std.proofs.Common.{List, [], ◌∷◌, ◌++◌, length, take, drop, map, refl, subst, arith, inl, inr}
use Rattle.std.proofs.Math.Utf8.{encode, encodes, scalar, scalars, scalar_cases}
use Rattle.std.proofs.lemmas.Bool.{cases_lt, ltb-true, lt-ltb, le-ltb}
use Rattle.std.proofs.lemmas.List.{length-take}
use Rattle.std.specs.Prelude.{IsUtf8}
use Rattle.std.specs.Int.{w32, w64, to_be_bytes, to_le_bytes}
use Rattle.std.specs.List.{flat_map}
use Rattle.pm_base.proofs.Laws.{AllByRecursion-append}
use Rattle.pm_values.specs.declared.value.Value.{Value}
use Rattle.pm_values.specs.declared.value.Value.TheVariants.{Null, Bool as Truth, Int as Whole, Text as Words}
use Rattle.pm_values.specs.declared.value.Value.TheVariants.{Bytes as Octets, Day, Millis}
use Rattle.pm_values.specs.declared.column.ColType.{ColType}
use Rattle.pm_values.specs.declared.column.ColType.TheVariants as types
use Rattle.pm_values.specs.Order.{Values}
use Rattle.pm_binrow.specs.Row.{IsCell, IsRow, body, bytes_of, fixed_size, is_null, null_bytes, octets, padded, slot, slots, tail, text_slot, text_tail, zeros}
use Rattle.pm_binrow.specs.Reading.{are_bytes}
use Rattle.pm_binrow.proofs.Bits.{octet_byte}
use Rattle.pm_binrow.proofs.Sizes.{text_slot-long, text_slot-short, text_tail-long, text_tail-short}
use Rattle.pm_binrow.proofs.Steps.{both, true_then}
use Rattle.pm_binrow.proofs.Texts.{AreBytes}

pub are_bytes-true : (bytes : List ℕ) → are_bytes bytes ≡ true → AreBytes bytes
unfolding are_bytes
are_bytes-true [] e = tt
are_bytes-true (b ∷ bytes) e =
    let p = true_then (ltb b 256) (are_bytes bytes) e in
    (ltb-true b 256 p.0, are_bytes-true bytes p.1)

pub are_bytes-all : (bytes : List ℕ) → AreBytes bytes → are_bytes bytes ≡ true
unfolding are_bytes
are_bytes-all [] all = refl
are_bytes-all (b ∷ bytes) all = rw (lt-ltb b 256 all.0) (are_bytes-all bytes all.1)

joined : (xs ys : List ℕ) → AreBytes xs → AreBytes ys → AreBytes (xs ++ ys)
joined xs ys = AllByRecursion-append (λ b. b < 256) xs ys

zeros-bytes : (n : ℕ) → AreBytes (zeros n)
zeros-bytes zero = tt
zeros-bytes (suc n) = (omega arith, zeros-bytes n)

-- ---- numbers

le_8-bytes : (n : ℕ) → AreBytes (to_le_bytes w64 n)
le_8-bytes n = (omega arith, (omega arith, (omega arith, (omega arith, (omega arith, (omega arith, (omega arith, (omega arith, tt))))))))

le_4-bytes : (n : ℕ) → AreBytes (to_le_bytes w32 n)
le_4-bytes n = (omega arith, (omega arith, (omega arith, (omega arith, tt))))

be_4-bytes : (n : ℕ) → AreBytes (to_be_bytes w32 n)
be_4-bytes n = (omega arith, (omega arith, (omega arith, (omega arith, tt))))

octets-bytes : (n : ℕ) (bits : List Bool) → AreBytes (octets n bits)
unfolding octets
octets-bytes zero bits = tt
octets-bytes (suc n) bits = (octet_byte (take 8 bits) (omega (arith, length-take 8 bits)), octets-bytes n (drop 8 bits))

-- ---- texts

scalar_below : (c : ℕ) → scalar c ≡ true → c < 1114112
scalar_below c e = elim (scalar_cases c e) [ inl low ↦ omega arith | inr high ↦ high.1 ]

encode-bytes : (c : ℕ) → c < 1114112 → AreBytes (encode c)
unfolding encode
encode-bytes c lt = elim (cases_lt c 128) [
  | inl one ↦ rw (lt-ltb c 128 one) (omega arith, tt)
  | inr a ↦ elim (cases_lt c 2048) [
    | inl two ↦ rw (le-ltb c 128 a, lt-ltb c 2048 two) (omega arith, (omega arith, tt))
    | inr b ↦ elim (cases_lt c 65536) [
      | inl three ↦ rw (le-ltb c 128 a, le-ltb c 2048 b, lt-ltb c 65536 three) (omega arith, (omega arith, (omega arith, tt)))
      | inr d ↦ rw (le-ltb c 128 a, le-ltb c 2048 b, le-ltb c 65536 d) (omega arith, (omega arith, (omega arith, (omega arith, tt))))
    ]
  ]
]

encodes-bytes : (cs : List ℕ) → scalars cs ≡ true → AreBytes (encodes cs)
encodes-bytes [] all = tt
encodes-bytes (c ∷ cs) all =
    let p = both (scalar c) (scalars cs) all in
    joined (encode c) (encodes cs) (encode-bytes c (scalar_below c p.0)) (encodes-bytes cs p.1)

utf8-bytes : (text : List ℕ) → IsUtf8 text → AreBytes text
utf8-bytes text h = subst AreBytes h.1.1 (encodes-bytes h.0 h.1.0)

text_slot-bytes : (at : ℕ) (text : List ℕ) → AreBytes text → AreBytes (text_slot at text)
text_slot-bytes at text all = elim (cases_lt 7 (length text)) [
  | inl lt ↦ rw (text_slot-long at text lt) (joined (to_le_bytes w32 (length text)) (to_le_bytes w32 at) (le_4-bytes (length text)) (le_4-bytes at))
  | inr le ↦ rw (text_slot-short at text le)
      (joined text (zeros (7 - length text) ++ (128 + length text) ∷ []) all
      (joined (zeros (7 - length text)) ((128 + length text) ∷ []) (zeros-bytes (7 - length text)) (omega arith, tt)))
]

text_tail-bytes : (text : List ℕ) → AreBytes text → AreBytes (text_tail text)
text_tail-bytes text all = elim (cases_lt 7 (length text)) [
  | inl lt ↦ rw (text_tail-long text lt) (joined text (zeros (padded (length text) - length text)) all (zeros-bytes (padded (length text) - length text)))
  | inr le ↦ rw (text_tail-short text le) tt
]

-- ---- values and rows

-- the text of a cell is bytes
abbrev HasBytes : Value → Type 0
HasBytes (Words text) = AreBytes text
HasBytes (Octets bytes) = AreBytes bytes
HasBytes value = Unit {0}

cell-bytes : (kind : ColType) (value : Value) → IsCell kind value → HasBytes value
cell-bytes types.Text (Words text) h = utf8-bytes text h
cell-bytes kind (Words text) h = absurd h
cell-bytes types.Bytes (Octets bytes) h = h
cell-bytes kind (Octets bytes) h = absurd h
cell-bytes kind value h = tt

slot-bytes : (at : ℕ) (kind : ColType) (value : Value) → HasBytes value → AreBytes (slot at kind value)
unfolding slot
slot-bytes at kind (Words text) h = text_slot-bytes at text h
slot-bytes at kind (Octets bytes) h = text_slot-bytes at bytes h
slot-bytes at kind Null h = zeros-bytes 8
slot-bytes at kind (Truth b) h = le_8-bytes _
slot-bytes at kind (Whole n) h = le_8-bytes _
slot-bytes at kind (Day d) h = le_8-bytes _
slot-bytes at kind (Millis m) h = le_8-bytes _

tail-bytes : (value : Value) → HasBytes value → AreBytes (tail value)
unfolding tail
tail-bytes (Words text) h = text_tail-bytes text h
tail-bytes (Octets bytes) h = text_tail-bytes bytes h
tail-bytes Null h = tt
tail-bytes (Truth b) h = tt
tail-bytes (Whole n) h = tt
tail-bytes (Day d) h = tt
tail-bytes (Millis m) h = tt

slots-bytes : (at : ℕ) (kinds : List ColType) (values : Values) → IsRow kinds values → AreBytes (slots at kinds values)
unfolding slots
slots-bytes at [] values h = tt
slots-bytes at (kind ∷ kinds) [] h = tt
slots-bytes at (kind ∷ kinds) (value ∷ values) h =
    joined (slot at kind value) (slots (at + length (tail value)) kinds values) (slot-bytes at kind value (cell-bytes kind value h.0))
    (slots-bytes (at + length (tail value)) kinds values h.1)

tails-bytes : (kinds : List ColType) (values : Values) → IsRow kinds values → AreBytes (flat_map tail values)
tails-bytes [] [] h = tt
tails-bytes [] (value ∷ values) h = absurd h
tails-bytes (kind ∷ kinds) [] h = absurd h
tails-bytes (kind ∷ kinds) (value ∷ values) h =
    joined (tail value) (flat_map tail values) (tail-bytes value (cell-bytes kind value h.0)) (tails-bytes kinds values h.1)

pub bytes_of-bytes : (kinds : List ColType) (values : Values) → IsRow kinds values → AreBytes (bytes_of kinds values)
bytes_of-bytes kinds values h =
    let places = slots (fixed_size (length kinds)) kinds values in
    let tails = flat_map tail values in
    joined (to_be_bytes w32 (length kinds)) (body kinds values) (be_4-bytes (length kinds))
    (joined (null_bytes (map is_null values)) (places ++ tails) (octets-bytes _ _)
    (joined places tails (slots-bytes (fixed_size (length kinds)) kinds values h) (tails-bytes kinds values h)))
