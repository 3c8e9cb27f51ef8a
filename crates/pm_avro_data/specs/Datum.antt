-- A datum without where it lies in memory.
use Rattle.std.specs.Prelude.{ℕ, ℤ, Bool, List, [], ◌∷◌}
use Rattle.pm_avro_data.specs.declared.datum.Leaf.{Leaf}
use Rattle.pm_avro_data.specs.declared.datum.Leaf.TheVariants as leaves
use Rattle.pm_avro_data.specs.declared.datum.Datum.{Datum, fold-Datum}
use Rattle.pm_avro_data.specs.declared.datum.Datum.TheOpen.{Datum-F}

mutual
  -- a datum
  pub data Data : Type 0 where
    null : Data
    boolean : Bool → Data
    int : ℤ → Data
    long : ℤ → Data
    bytes : List ℕ → Data
    text : List ℕ → Data
    record_of : Items → Data
    array_of : Items → Data
    map_of : Entries → Data
    union_of : ℕ → Data → Data

  -- a record's values or an array's items in order
  pub data Items : Type 0 where
    no_items : Items
    item : Data → Items → Items

  -- a map's keys and values in order
  pub data Entries : Type 0 where
    no_entries : Entries
    entry : List ℕ → Data → Entries → Entries

-- the items of a list
abbrev pub items_of : List Data → Items
items_of [] = no_items
items_of (d ∷ ds) = item d (items_of ds)

-- items as a list
abbrev pub items : Items → List Data
items no_items = []
items (item d ds) = d ∷ items ds

-- the entries of a list
abbrev pub entries_of : List (List ℕ × Data) → Entries
entries_of [] = no_entries
entries_of (e ∷ es) = entry e.0 e.1 (entries_of es)

-- entries as a list
abbrev pub entries : Entries → List (List ℕ × Data)
entries no_entries = []
entries (entry key d es) = (key, d) ∷ entries es

-- a datum that holds no other, as a datum
abbrev pub leaf_data : Leaf → Data
leaf_data leaves.Null = null
leaf_data (leaves.Bool b) = boolean b
leaf_data (leaves.Int z) = int z
leaf_data (leaves.Long z) = long z
leaf_data (leaves.Bytes v) = bytes v.items
leaf_data (leaves.Text t) = text t

-- one level, with each datum inside already seen
abbrev pub view_step : Datum-F Data → Data
view_step Datum-F.Null = null
view_step (Datum-F.Bool b) = boolean b
view_step (Datum-F.Int z) = int z
view_step (Datum-F.Long z) = long z
view_step (Datum-F.Bytes v) = bytes v.items
view_step (Datum-F.Text t) = text t
view_step (Datum-F.Record v) = record_of (items_of v.items)
view_step (Datum-F.Array v) = array_of (items_of v.items)
view_step (Datum-F.Map v) = map_of (entries_of v.items)
view_step (Datum-F.Branch k l) = union_of k (leaf_data l)
view_step (Datum-F.Union k d) = union_of k d.value

-- the datum that contracts see
abbrev pub view : Datum → Data
view = fold-Datum Data view_step

-- an entry that is seen as its key and its datum
abbrev pub entry_view : List ℕ × Datum → List ℕ × Data
entry_view e = (e.0, view e.1)
