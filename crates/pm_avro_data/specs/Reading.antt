-- Private: reading what a text begins with, from left to right: the value and the rest, or none.
use Rattle.std.specs.Prelude.{◌≡◌, ℕ, zero, suc, ◌+◌, ◌-◌, ◌*◌, ◌/◌, ◌%◌, ℤ, pos, negsuc, Bool, true}
use Rattle.std.specs.Prelude.{false, List, [], ◌∷◌, ◌++◌, length, take, drop, Option, Some, None, Result}
use Rattle.std.specs.Prelude.{Ok, Err, nat_lt, nat_le, ◌==◌, if◌then◌else◌, option_map, unsigned_abs}
use Rattle.std.specs.Borrow.{Bor}
use Rattle.std.specs.Str.{is_utf8}
use Rattle.pm_base.specs.Steps.{◌>>=◌}
use Rattle.pm_avro_schema.specs.Avro as types
use Rattle.pm_avro_schema.specs.Avro.{Avro, Fields, no_fields, field, Branches, no_branches, branch}
use Rattle.pm_avro_schema.specs.declared.fault.AvroFault.{AvroFault}
use Rattle.pm_avro_schema.specs.declared.fault.AvroFault.TheVariants as faults
use Rattle.pm_avro_data.specs.declared.block.Head.{Head}
use Rattle.pm_avro_data.specs.Datum.{Data, null, boolean, int, long, bytes, text, record_of}
use Rattle.pm_avro_data.specs.Datum.{array_of, map_of, union_of, items_of, entries_of}

-- what a reader that needs no memory gives
abbrev pub IsReading : {X Y : Type 0} → (X → Y) → Option (X × Bor (List ℕ)) → Option (Y × List ℕ) → Type 0
IsReading view result reading = option_map (λ x. (view x.0, x.1.now)) result ≡ reading

-- a fault where nothing is read: `Bad` at 0, or out of memory, of which nothing is said
abbrev pub YieldsNone : {Y : Type 0} → AvroFault → Option Y → Type 0
YieldsNone faults.Memory reading = Unit {0}
YieldsNone (faults.Unsupported what said) reading = ⊥
YieldsNone (faults.Bad offset) reading = (offset ≡ 0) × (reading ≡ None)

-- what a reader gives: what is read, seen by view, or a fault where nothing is
abbrev pub Yields : {X Y : Type 0} → (X → Y) → Result X AvroFault → Option Y → Type 0
Yields view (Ok x) reading = reading ≡ Some (view x)
Yields view (Err e) reading = YieldsNone e reading

-- a byte
abbrev pub byte_at : List ℕ → Option (ℕ × List ℕ)
byte_at [] = None
byte_at (b ∷ source) = Some (b, source)

-- the number that has the low seven bits of b, and above them what was read
abbrev pub above : ℕ → Option (ℕ × List ℕ) → Option (ℕ × List ℕ)
above b = option_map (λ x. (b - 128 + 128 * x.0, x.1))

-- a number in groups, at most so many, and the last of as many at most top
unfoldable pub number_at : ℕ → ℕ → List ℕ → Option (ℕ × List ℕ)
number_at zero top source = None
number_at (suc p) top [] = None
number_at (suc zero) top (b ∷ source) = if nat_le b top then Some (b, source) else None
number_at (suc (suc p)) top (b ∷ source) =
    if nat_lt b 128 then Some (b, source)
    else (if nat_lt b 256 then above b (number_at (suc p) top source) else None)

-- the integer that a number stands for
abbrev pub unzigzag : ℕ → ℤ
unzigzag n = if n % 2 == 0 then pos (n / 2) else negsuc (n / 2)

-- the number that was read, as the integer that it stands for
abbrev pub signed : Option (ℕ × List ℕ) → Option (ℤ × List ℕ)
signed = option_map (λ x. (unzigzag x.0, x.1))

-- an int, of at most five bytes
unfoldable pub int_at : List ℕ → Option (ℤ × List ℕ)
int_at source = signed (number_at 5 15 source)

-- a long, of at most ten
unfoldable pub long_at : List ℕ → Option (ℤ × List ℕ)
long_at source = signed (number_at 10 1 source)

-- a number that isn't negative
abbrev pub not_negative : ℤ × List ℕ → Option (ℕ × List ℕ)
not_negative (pos n, rest) = Some (n, rest)
not_negative (negsuc n, rest) = None

-- a size: a long that isn't negative
unfoldable pub size_at : List ℕ → Option (ℕ × List ℕ)
size_at source = long_at source >>= not_negative

-- the index of a branch: an int that isn't negative
unfoldable pub index_at : List ℕ → Option (ℕ × List ℕ)
index_at source = int_at source >>= not_negative

-- a byte 0 or 1
unfoldable pub boolean_at : List ℕ → Option (Bool × List ℕ)
boolean_at [] = None
boolean_at (zero ∷ source) = Some (false, source)
boolean_at (suc zero ∷ source) = Some (true, source)
boolean_at (suc (suc b) ∷ source) = None

-- a size, and that many bytes
unfoldable pub bytes_at : List ℕ → Option (List ℕ × List ℕ)
bytes_at source = do
  n ← size_at source
  if nat_lt (length n.1) n.0 then None else Some (take n.0 n.1, drop n.0 n.1)

-- bytes in UTF-8
unfoldable pub text_at : List ℕ → Option (List ℕ × List ℕ)
text_at source = do
  bs ← bytes_at source
  if is_utf8 bs.0 then Some bs else None

-- what a block's count says, with the size that stands after a negative one
abbrev pub head_from : ℤ × List ℕ → Option (Head × List ℕ)
head_from (pos n, rest) = Some (record { count = n; size = None }, rest)
head_from (negsuc n, rest) = option_map (λ x. (record { count = suc n; size = Some x.0 }, x.1)) (size_at rest)

-- a block's head, whose count isn't above the number of bytes left
unfoldable pub head_at : List ℕ → Option (Head × List ℕ)
head_at source = do
  count ← long_at source
  if nat_lt (length count.1) (unsigned_abs count.0) then None else head_from count

-- what was read before, and what is still read
abbrev pub with_earlier : {X : Type 0} → List X → Option (List X × List ℕ) → Option (List X × List ℕ)
with_earlier before = option_map (λ x. (before ++ x.0, x.1))

-- so many items, one after another
unfoldable pub items_at : {X : Type 0} → (List ℕ → Option (X × List ℕ)) → ℕ → List ℕ → Option (List X × List ℕ)
items_at P zero source = Some ([], source)
items_at P (suc n) source = do
  x ← P source
  xs ← items_at P n x.1
  Some (x.0 ∷ xs.0, xs.1)

-- whether what was read has the size that it must have
abbrev pub has_size : Option ℕ → List ℕ → List ℕ → Bool
has_size None source rest = true
has_size (Some size) source rest = length source == size + length rest

-- a block's items, of the size that its head says
unfoldable pub body_at : {X : Type 0} → (List ℕ → Option (X × List ℕ)) → Head → List ℕ → Option (List X × List ℕ)
body_at P head source = do
  xs ← items_at P head.count source
  if has_size head.size source xs.1 then Some xs else None

-- what stands after a head: nothing where it ends the blocks, and else the block's items and the later blocks
abbrev pub blocks_after : {X : Type 0} → (List ℕ → Option (X × List ℕ)) → (List ℕ → Option (List X × List ℕ))
    → Head × List ℕ → Option (List X × List ℕ)
blocks_after P later (head, after) = if head.count == 0 then Some ([], after) else (do
  xs ← body_at P head after
  ys ← later xs.1
  Some (xs.0 ++ ys.0, ys.1))

-- the blocks of an array or a map, at most so many, with the one that ends them
unfoldable pub blocks_at : {X : Type 0} → (List ℕ → Option (X × List ℕ)) → ℕ → List ℕ → Option (List X × List ℕ)
blocks_at P zero source = None
blocks_at P (suc most) source = head_at source >>= blocks_after P (blocks_at P most)

-- all blocks: a source has no more of them than bytes
unfoldable pub all_blocks_at : {X : Type 0} → (List ℕ → Option (X × List ℕ)) → List ℕ → Option (List X × List ℕ)
all_blocks_at P source = blocks_at P (suc (length source)) source

-- a map's key and its value
unfoldable pub entry_at : (List ℕ → Option (Data × List ℕ)) → List ℕ → Option ((List ℕ × Data) × List ℕ)
entry_at P source = do
  key ← text_at source
  value ← P key.1
  Some ((key.0, value.0), value.1)

-- what was read, as a datum
abbrev pub seen_as : {Y : Type 0} → (Y → Data) → Option (Y × List ℕ) → Option (Data × List ℕ)
seen_as make = option_map (λ x. (make x.0, x.1))

unfoldable mutual
  -- a datum of the type
  pub datum_at : Avro → List ℕ → Option (Data × List ℕ)
  datum_at types.null source = Some (null, source)
  datum_at types.boolean source = seen_as boolean (boolean_at source)
  datum_at types.int source = seen_as int (int_at source)
  datum_at types.long source = seen_as long (long_at source)
  datum_at types.bytes source = seen_as bytes (bytes_at source)
  datum_at types.text source = seen_as text (text_at source)
  datum_at (types.record_of fs) source = seen_as (λ ds. record_of (items_of ds)) (fields_at fs source)
  datum_at (types.array_of t) source = seen_as (λ ds. array_of (items_of ds)) (all_blocks_at (datum_at t) source)
  datum_at (types.map_of t) source =
      seen_as (λ es. map_of (entries_of es)) (all_blocks_at (entry_at (datum_at t)) source)
  datum_at (types.union_of ts) source = do
    k ← index_at source
    d ← branch_at ts k.0 k.1
    Some (union_of k.0 d.0, d.1)

  -- a datum for each field, in order
  pub fields_at : Fields → List ℕ → Option (List Data × List ℕ)
  fields_at no_fields source = Some ([], source)
  fields_at (field name t fs) source = do
    d ← datum_at t source
    ds ← fields_at fs d.1
    Some (d.0 ∷ ds.0, ds.1)

  -- a datum of the branch at this index
  pub branch_at : Branches → ℕ → List ℕ → Option (Data × List ℕ)
  branch_at no_branches k source = None
  branch_at (branch t ts) zero source = datum_at t source
  branch_at (branch t ts) (suc k) source = branch_at ts k source
