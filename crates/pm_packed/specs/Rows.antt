-- Private: where packed rows lie, and the row at a place.
use Rattle.std.specs.Prelude.{◌≡◌, ℕ, ◌≤◌, List, ◌++◌, drop, length, map, if◌then◌else◌}
use Rattle.pm_values.specs.declared.record.Stamped.{Stamped}
use Rattle.pm_packed.specs.Values.{stamped_in, values_in}
use Rattle.pm_packed.specs.declared.head.Head.{Head}
use Rattle.pm_packed.specs.declared.rows.Place.{Place}

-- the row of bytes: its first values are its key, or they follow those of its key
abbrev pub row_in : Head → List ℕ → Stamped
row_in h bytes =
    if h.begins then record {
      key = (values_in h.key_count bytes).0;
      seq = h.seq;
      kind = h.kind;
      row = (values_in h.row_count bytes).0;
    } else stamped_in h.seq h.kind h.key_count h.row_count bytes

-- bytes that are read as this row, whatever stands after them
abbrev pub IsRowCode : Stamped → Head → List ℕ → Type 0
IsRowCode row h code = (rest : List ℕ) → row_in h (code ++ rest) ≡ row

-- the row at a place
abbrev pub row_at : List ℕ → Place → Stamped
row_at bytes p = row_in p.head (drop p.start bytes)

-- it lies there whole: it stays the same, whatever is added to the bytes
abbrev pub IsWhole : List ℕ → Place → Type 0
IsWhole bytes p = (more : List ℕ) → row_at (bytes ++ more) p ≡ row_at bytes p

-- the rows at places
abbrev pub rows_at : List ℕ → List Place → List Stamped
rows_at bytes places = map (row_at bytes) places

-- bytes to which some were added, or none
abbrev pub Grows : List ℕ → List ℕ → Type 0
Grows old new = (more : List ℕ) × (new ≡ old ++ more)

-- this code lies at an offset
pub record LiesAt (code : List ℕ) (bytes : List ℕ) (start : ℕ) : Type 0 where
  pub rest : List ℕ
  pub within : start ≤ length bytes
  pub is : drop start bytes ≡ code ++ rest
