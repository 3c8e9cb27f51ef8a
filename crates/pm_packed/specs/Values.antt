-- Private: what the bytes of packed values mean, and what is added for a value.
use Rattle.std.specs.Prelude.{◌≡◌, ℕ, suc, zero, ℤ, pos, ◌==◌, nat_lt, List, [], ◌∷◌, ◌++◌, length, take, drop}
use Rattle.std.specs.Prelude.{true, false, if◌then◌else◌}
use Rattle.std.specs.Int.{cast_signed, from_le_bytes, w32, w64}
use Rattle.pm_values.specs.declared.kind.Kind.{Kind}
use Rattle.pm_values.specs.declared.record.Stamped.{Stamped}
use Rattle.pm_values.specs.declared.value.Value.{Value}
use Rattle.pm_values.specs.declared.value.Value.TheVariants as values
use Rattle.pm_packed.specs.declared.raw.Raw.{Raw}
use Rattle.pm_packed.specs.declared.raw.Raw.TheVariants as raws

-- the value that lies there
abbrev pub raw_value : Raw → Value
raw_value raws.Null = values.Null
raw_value (raws.Bool truth) = values.Bool truth
raw_value (raws.Int number) = values.Int number
raw_value (raws.Text content) = values.Text content.now
raw_value (raws.Bytes content) = values.Bytes content.now
raw_value (raws.Day day) = values.Day day
raw_value (raws.Millis millis) = values.Millis millis

-- the number of the first eight bytes, and the rest
abbrev pub whole_in : List ℕ → ℤ × List ℕ
whole_in bytes =
    if nat_lt (length bytes) 8 then (pos 0, []) else (cast_signed w64 (from_le_bytes w64 (take 8 bytes)), drop 8 bytes)

-- the number of the first four bytes, and the rest
abbrev pub day_in : List ℕ → ℤ × List ℕ
day_in bytes =
    if nat_lt (length bytes) 4 then (pos 0, []) else (cast_signed w32 (from_le_bytes w32 (take 4 bytes)), drop 4 bytes)

-- the first bytes, so many, and the rest
abbrev pub cut : ℕ → List ℕ → List ℕ × List ℕ
cut count bytes = (take count bytes, drop count bytes)

-- the bytes whose length the first four bytes are, and the rest
abbrev pub content_in : List ℕ → List ℕ × List ℕ
content_in bytes =
    if nat_lt (length bytes) 4 then ([], []) else cut (from_le_bytes w32 (take 4 bytes)) (drop 4 bytes)

-- a value of a part and the rest
abbrev pub made : {X : Type 0} → (X → Value) → X × List ℕ → Value × List ℕ
made make part = (make part.0, part.1)

-- the value with the tag, and the rest
abbrev pub tagged : ℕ → List ℕ → Value × List ℕ
tagged tag bytes =
    if tag == 1 then (values.Bool false, bytes)
    else if tag == 2 then (values.Bool true, bytes)
    else if tag == 3 then made values.Int (whole_in bytes)
    else if tag == 4 then made values.Text (content_in bytes)
    else if tag == 5 then made values.Bytes (content_in bytes)
    else if tag == 6 then made values.Day (day_in bytes)
    else if tag == 7 then made values.Millis (whole_in bytes)
    else (values.Null, bytes)

-- the first value, and the rest
abbrev pub value_in : List ℕ → Value × List ℕ
value_in [] = (values.Null, [])
value_in (tag ∷ bytes) = tagged tag bytes

-- the first values, so many, and the rest
abbrev pub values_in : ℕ → List ℕ → List Value × List ℕ
values_in zero bytes = ([], bytes)
values_in (suc count) bytes =
    ((value_in bytes).0 ∷ (values_in count (value_in bytes).1).0, (values_in count (value_in bytes).1).1)

-- the row whose values follow those of its key
abbrev pub stamped_in : ℕ → Kind → ℕ → ℕ → List ℕ → Stamped
stamped_in seq kind keys count bytes = record {
  key = (values_in keys bytes).0;
  seq = seq;
  kind = kind;
  row = (values_in count (values_in keys bytes).1).0;
}

-- bytes that are read as this value, and as these, whatever stands after them
abbrev pub IsCodeOf : Value → List ℕ → Type 0
IsCodeOf v code = (rest : List ℕ) → value_in (code ++ rest) ≡ (v, rest)

abbrev pub AreCodeOf : List Value → List ℕ → Type 0
AreCodeOf vs code = (rest : List ℕ) → values_in (length vs) (code ++ rest) ≡ (vs, rest)

-- bytes were added that are such
abbrev pub Adds : (List ℕ → Type 0) → List ℕ → List ℕ → Type 0
Adds IsCode old new = (code : List ℕ) × (new ≡ old ++ code) × IsCode code
