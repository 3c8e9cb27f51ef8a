-- The bytes that are written for a datum: of its spellings one that is shortest. They don't depend on the type.
use Rattle.std.specs.Prelude.{ℕ, zero, suc, ◌+◌, ◌/◌, ◌%◌, ◌^◌, ◌<◌, ℤ, pos, List, [], ◌∷◌}
use Rattle.std.specs.Prelude.{◌++◌, length, nat_lt, if◌then◌else◌, IsUtf8, FitsSigned}
use Rattle.std.specs.Int.{w32, w64}
use Rattle.pm_avro_data.specs.Datum.{Data, null, boolean, int, long, bytes, text, record_of, array_of, map_of}
use Rattle.pm_avro_data.specs.Datum.{union_of, Items, no_items, item, items, Entries, no_entries, entry, entries}
use Rattle.pm_avro_data.specs.Number.{zigzag}

-- a number in groups of seven bits, lowest first, at most so many after the first
unfoldable pub groups : ℕ → ℕ → List ℕ
groups zero n = n ∷ []
groups (suc more) n = if nat_lt n 128 then n ∷ [] else (n % 128 + 128) ∷ groups more (n / 128)

-- an int or a long
unfoldable pub integer : ℤ → List ℕ
integer z = groups 9 (zigzag z)

-- bytes or a text after their length
abbrev pub sized : List ℕ → List ℕ
sized bs = integer (pos (length bs)) ++ bs

-- the items of an array or a map as one block, or none, and a count of 0
unfoldable pub blocked : ℕ → List ℕ → List ℕ
blocked zero content = 0 ∷ []
blocked (suc n) content = integer (pos (suc n)) ++ (content ++ 0 ∷ [])

abbrev mutual
  -- the bytes of a datum
  pub encoding : Data → List ℕ
  encoding null = []
  encoding (boolean b) = (if b then 1 else 0) ∷ []
  encoding (int z) = integer z
  encoding (long z) = integer z
  encoding (bytes bs) = sized bs
  encoding (text bs) = sized bs
  encoding (record_of ds) = items_encoding ds
  encoding (array_of ds) = blocked (length (items ds)) (items_encoding ds)
  encoding (map_of es) = blocked (length (entries es)) (entries_encoding es)
  encoding (union_of k d) = integer (pos k) ++ encoding d

  -- the bytes of items, one after another
  pub items_encoding : Items → List ℕ
  items_encoding no_items = []
  items_encoding (item d ds) = encoding d ++ items_encoding ds

  -- the bytes of keys and values, one after another
  pub entries_encoding : Entries → List ℕ
  entries_encoding no_entries = []
  entries_encoding (entry key d es) = sized key ++ (encoding d ++ entries_encoding es)

abbrev mutual
  -- what holds of each datum that lies in memory: numbers fit their widths, lengths are sizes, and texts are UTF-8
  pub Fits : Data → Type 0
  Fits null = Unit {0}
  Fits (boolean b) = Unit {0}
  Fits (int z) = FitsSigned w32 z
  Fits (long z) = FitsSigned w64 z
  Fits (bytes bs) = length bs < 2 ^ 63
  Fits (text bs) = IsUtf8 bs × (length bs < 2 ^ 63)
  Fits (record_of ds) = ItemsFit ds
  Fits (array_of ds) = (length (items ds) < 2 ^ 63) × ItemsFit ds
  Fits (map_of es) = (length (entries es) < 2 ^ 63) × EntriesFit es
  Fits (union_of k d) = Fits d

  -- Private: so of each item
  pub ItemsFit : Items → Type 0
  ItemsFit no_items = Unit {0}
  ItemsFit (item d ds) = Fits d × ItemsFit ds

  -- Private: so of each entry, and its key is UTF-8
  pub EntriesFit : Entries → Type 0
  EntriesFit no_entries = Unit {0}
  EntriesFit (entry key d es) = IsUtf8 key × (length key < 2 ^ 63) × Fits d × EntriesFit es
