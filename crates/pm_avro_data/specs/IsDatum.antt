-- Which sources are a datum of a type, and then a rest (Apache Avro specification, "Binary Encoding").
-- Each relation says of a source that it is the value's bytes and then the rest, which may be any bytes.
use Rattle.std.specs.Prelude.{◌≡◌, ◌≢◌, ℕ, zero, suc, ◌+◌, ◌≤◌, ℤ, pos, negsuc, Bool}
use Rattle.std.specs.Prelude.{List, [], ◌∷◌, ◌++◌, length, if◌then◌else◌, IsUtf8}
use Rattle.std.specs.List.{flat_map}
use Rattle.pm_avro_schema.specs.Avro as types
use Rattle.pm_avro_schema.specs.Avro.{Avro, Fields, no_fields, field, Branches, no_branches, branch}
use Rattle.pm_avro_data.specs.Datum.{Data, null, boolean, int, long, bytes, text, record_of, array_of}
use Rattle.pm_avro_data.specs.Datum.{map_of, union_of, Items, no_items, item, items, entries}
use Rattle.pm_avro_data.specs.Number.{IsInt, IsLong}

-- a byte 0 or 1
abbrev pub IsBoolean : Bool → List ℕ → List ℕ → Type 0
IsBoolean b source rest = source ≡ (if b then 1 else 0) ∷ rest

-- a long, and that many bytes
abbrev pub IsBytes : List ℕ → List ℕ → List ℕ → Type 0
IsBytes bs source rest = IsLong (pos (length bs)) source (bs ++ rest)

-- such bytes, in UTF-8
abbrev pub IsText : List ℕ → List ℕ → List ℕ → Type 0
IsText bs source rest = IsUtf8 bs × IsBytes bs source rest

-- a map's key, and its value
abbrev pub IsEntry : (Data → List ℕ → List ℕ → Type 0) → List ℕ × Data → List ℕ → List ℕ → Type 0
IsEntry P e source rest = (middle : List ℕ) × IsText e.0 source middle × P e.1 middle rest

-- items, one after another
abbrev pub AreItems : {X : Type 0} → (X → List ℕ → List ℕ → Type 0) → List X → List ℕ → List ℕ → Type 0
AreItems P [] source rest = source ≡ rest
AreItems P (x ∷ xs) source rest = (middle : List ℕ) × P x source middle × AreItems P xs middle rest

-- the size of the items in bytes, and the items
pub record IsSized {X : Type 0} (P : X → List ℕ → List ℕ → Type 0) (xs : List X) (source rest : List ℕ) : Type 0 where
  pub size : ℕ
  pub start : List ℕ
  pub number : IsLong (pos size) source start
  pub whole : length start ≡ size + length rest
  pub each : AreItems P xs start rest

-- what follows a block's count: as many items, after their size where the count is negative
abbrev pub IsBody : {X : Type 0} → (X → List ℕ → List ℕ → Type 0) → ℤ → List X → List ℕ → List ℕ → Type 0
IsBody P (pos n) xs source rest = (length xs ≡ n) × AreItems P xs source rest
IsBody P (negsuc n) xs source rest = (length xs ≡ suc n) × IsSized P xs source rest

-- a block: its count, which isn't 0 and isn't above the number of bytes left, and its body
pub record IsBlock {X : Type 0} (P : X → List ℕ → List ℕ → Type 0) (xs : List X) (source rest : List ℕ) : Type 0 where
  pub count : ℤ
  pub left : List ℕ
  pub some : xs ≢ []
  pub number : IsLong count source left
  pub within : length xs ≤ length left
  pub body : IsBody P count xs left rest

-- blocks, and a count of 0
abbrev pub AreBlocks : {X : Type 0} → (X → List ℕ → List ℕ → Type 0) → List (List X) → List ℕ → List ℕ → Type 0
AreBlocks P [] source rest = IsLong (pos 0) source rest
AreBlocks P (xs ∷ blocks) source rest = (middle : List ℕ) × IsBlock P xs source middle × AreBlocks P blocks middle rest

-- the items of blocks, one after another
abbrev pub IsBlocked : {X : Type 0} → (X → List ℕ → List ℕ → Type 0) → List X → List ℕ → List ℕ → Type 0
IsBlocked {X} P xs source rest =
    (blocks : List (List X)) × (xs ≡ flat_map (λ block. block) blocks) × AreBlocks P blocks source rest

abbrev mutual
  -- the source is a datum of the type, and then the rest
  pub IsDatum : Avro → Data → List ℕ → List ℕ → Type 0
  IsDatum types.null null source rest = source ≡ rest
  IsDatum types.boolean (boolean b) source rest = IsBoolean b source rest
  IsDatum types.int (int z) source rest = IsInt z source rest
  IsDatum types.long (long z) source rest = IsLong z source rest
  IsDatum types.bytes (bytes bs) source rest = IsBytes bs source rest
  IsDatum types.text (text bs) source rest = IsText bs source rest
  IsDatum (types.record_of fs) (record_of ds) source rest = AreFields fs ds source rest
  IsDatum (types.array_of t) (array_of ds) source rest = IsBlocked (IsDatum t) (items ds) source rest
  IsDatum (types.map_of t) (map_of es) source rest = IsBlocked (IsEntry (IsDatum t)) (entries es) source rest
  IsDatum (types.union_of ts) (union_of k d) source rest =
      (middle : List ℕ) × IsInt (pos k) source middle × IsBranch ts k d middle rest
  IsDatum t d source rest = ⊥

  -- a record's values, one for each field, in order
  pub AreFields : Fields → Items → List ℕ → List ℕ → Type 0
  AreFields no_fields no_items source rest = source ≡ rest
  AreFields (field name t fs) (item d ds) source rest =
      (middle : List ℕ) × IsDatum t d source middle × AreFields fs ds middle rest
  AreFields fs ds source rest = ⊥

  -- a datum of the branch at this index
  pub IsBranch : Branches → ℕ → Data → List ℕ → List ℕ → Type 0
  IsBranch no_branches k d source rest = ⊥
  IsBranch (branch t ts) zero d source rest = IsDatum t d source rest
  IsBranch (branch t ts) (suc k) d source rest = IsBranch ts k d source rest
