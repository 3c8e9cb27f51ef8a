-- A record's fields by their names, and what may be null.
use Rattle.std.specs.Prelude.{◌≡◌, ◌≢◌, ◌<◌, ℕ, zero, suc, List, [], ◌∷◌, map, get_or, Bool, true, false, not}
use Rattle.std.specs.Prelude.{◌&&◌, if◌then◌else◌, Option, Some, None, option_map}
use Rattle.std.specs.List.{list_any, AllByRecursion}
use Rattle.std.specs.Option.{is_some, unwrap_or}
use Rattle.std.specs.Borrow.{Bor}
use Rattle.std.specs.BTreeMap.{BTreeMap, get_by}
use Rattle.std.specs.Cmp.Lexicographic.{slice_cmp}
use Rattle.std.specs.Ordering.{nat_cmp}
use Rattle.std.specs.Str.{bytes_eq}
use Rattle.pm_base.specs.Steps.{◌>>=◌}
use Rattle.pm_avro_schema.specs.Avro as types
use Rattle.pm_avro_schema.specs.Avro.{Avro, Fields, no_fields, field, Branches, no_branches, branch}
use Rattle.pm_avro_data.specs.Datum.{Data, null, record_of, union_of, Items, item}
use Rattle.pm_avro_data.specs.HasType.{HasType}

-- the type of null
abbrev pub is_null : Avro → Bool
is_null types.null = true
is_null t = false

-- of two types that which stands beside null
abbrev pub beside : Avro → Avro → Option Avro
beside first second = if is_null first then Some second else (if is_null second then Some first else None)

-- of exactly two branches that which stands beside null
abbrev pub other_branch : Branches → Option Avro
other_branch (branch first (branch second no_branches)) = beside first second
other_branch ts = None

-- the type that stands beside null in a union of exactly the two, in either order
abbrev pub optional : Avro → Option Avro
optional (types.union_of ts) = other_branch ts
optional t = None

-- that type; any other type is itself
abbrev pub beside_null : Avro → Avro
beside_null t = unwrap_or (optional t) t

-- a datum that isn't null
abbrev pub not_null : Data → Option Data
not_null null = None
not_null d = Some d

-- the datum of a union's branch; any other datum is itself
abbrev pub inner : Data → Data
inner (union_of k d) = d
inner d = d

-- A datum without the union of null and one more type, and none where it is null. In any other union it stays as it
-- is.
abbrev pub present : Avro → Data → Option Data
present t d = not_null (if is_some (optional t) then inner d else d)

-- the fields of a record
abbrev pub fields_in : Avro → Option Fields
fields_in (types.record_of fs) = Some fs
fields_in t = None

-- the fields of the record that the type is, or that stands in it beside null
abbrev pub record_fields : Avro → Option Fields
record_fields t = fields_in (beside_null t)

-- the index of the first field of a name
abbrev pub index_in : List ℕ → Fields → Option ℕ
index_in name no_fields = None
index_in name (field other t fs) = if bytes_eq name other then Some zero else option_map suc (index_in name fs)

-- the index of each name
abbrev pub all_indexes : List (List ℕ) → Fields → Option (List ℕ)
all_indexes [] fs = Some []
all_indexes (name ∷ names) fs = do
  i ← index_in name fs
  is ← all_indexes names fs
  Some (i ∷ is)

-- the index of each name in the record; none where the type is no record, or a name is missing
abbrev pub indexes_in : List (List ℕ) → Avro → Option (List ℕ)
indexes_in names t = record_fields t >>= all_indexes names

-- the type of the first field of a name
abbrev pub type_in : List ℕ → Fields → Option Avro
type_in name no_fields = None
type_in name (field other t fs) = if bytes_eq name other then Some t else type_in name fs

-- the type of the field of a name in the record
abbrev pub type_of_field : List ℕ → Avro → Option Avro
type_of_field name t = record_fields t >>= type_in name

-- what stands at the first field of a name
abbrev pub value_in : List ℕ → Fields → Items → Option Data
value_in name (field other t fs) (item d ds) = if bytes_eq name other then Some d else value_in name fs ds
value_in name fs ds = None

-- what stands at each name
abbrev pub all_values : List (List ℕ) → Fields → Items → Option (List Data)
all_values [] fs ds = Some []
all_values (name ∷ names) fs ds = do
  d ← value_in name fs ds
  later ← all_values names fs ds
  Some (d ∷ later)

-- what stands at each name in a record's datum
abbrev pub values_in : List (List ℕ) → Avro → Data → Option (List Data)
values_in names (types.record_of fs) (record_of ds) = all_values names fs ds
values_in names t d = None

-- What stands at these names in a datum of the type, in the order of the names. None where null stands for the
-- record.
abbrev pub selected : List (List ℕ) → Avro → Data → Option (List Data)
selected names t d = present t d >>= values_in names (beside_null t)

-- no name stands twice
abbrev pub all_differ : List (List ℕ) → Bool
all_differ [] = true
all_differ (name ∷ names) = not (list_any (bytes_eq name) names) && all_differ names

-- the indexes are those of some names in the type's record
abbrev pub AreIndexes : List ℕ → Avro → Type 0
AreIndexes is t = (names : List (List ℕ)) × (indexes_in names t ≡ Some is)

-- Private: a record's values
abbrev pub items_in : Data → Option Items
items_in (record_of ds) = Some ds
items_in d = None

-- Private: the values of the record that a datum is without null
abbrev pub present_items : Avro → Data → Option Items
present_items t d = present t d >>= items_in

-- Private: the map has the index of the first field of each name
abbrev pub HasIndexes : BTreeMap (Bor (List ℕ)) ℕ → Fields → Type 0
HasIndexes indexes fs = (name : List ℕ) → get_by (λ k. slice_cmp nat_cmp name k.now) indexes ≡ index_in name fs

-- Private: no index stands twice
abbrev pub AreApart : List ℕ → Type 0
AreApart [] = Unit {0}
AreApart (i ∷ is) = AllByRecursion (λ j. i ≢ j) is × AreApart is

-- Private: each index is below a number
abbrev pub AreBelow : List ℕ → ℕ → Type 0
AreBelow is n = AllByRecursion (λ i. i < n) is

-- Private: the data at the indexes
abbrev pub at_indexes : List ℕ → List Data → List Data
at_indexes is ds = map (λ i. get_or ds i null) is

-- texts that are lent
abbrev pub lent : List (Bor (List ℕ)) → List (List ℕ)
lent names = map (λ name. name.now) names

-- one datum for each name, and each has the type of its field
abbrev pub HaveFieldTypes : List (List ℕ) → Avro → List Data → Type 0
HaveFieldTypes [] t [] = Unit {0}
HaveFieldTypes (name ∷ names) t (d ∷ ds) =
    ((u : Avro) × (type_of_field name t ≡ Some u) × HasType u d) × HaveFieldTypes names t ds
HaveFieldTypes names t ds = ⊥
