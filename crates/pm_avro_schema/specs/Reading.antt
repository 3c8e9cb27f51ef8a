-- The type that a JSON text means, or its first fault. A value is judged before what it holds: what
-- it is, its `type`, how deep it stands, and whether the attribute that it needs is there. What it
-- holds follows in order, of a field its name before its type. That an array's items take no byte
-- is judged after all faults of its items.
use Rattle.std.specs.Prelude.{ℕ, ◌+◌, List, [], ◌∷◌, ◌++◌, codes, nat_lt, if◌then◌else◌}
use Rattle.std.specs.Prelude.{Option, Some, None, option_and_then, Result, Ok, Err}
use Rattle.std.specs.Ordering.{nat_cmp, match_ordering}
use Rattle.std.specs.Cmp.Lexicographic.{slice_cmp}
use Rattle.std.specs.List.{list_any}
use Rattle.std.specs.Str.{bytes_eq, is_utf8}
use Rattle.serde_json.specs.Data.{Data, null as json_null, boolean as json_boolean, number, string}
use Rattle.serde_json.specs.Data.{array, object, Items, no_items, item, Members, no_members, member}
use Rattle.serde_json.specs.Find.{get_member, as_str}
use Rattle.serde_json.specs.Read.{read}
use Rattle.pm_avro_schema.specs.Avro.{Avro, null, boolean, int, long, bytes, text, record_of}
use Rattle.pm_avro_schema.specs.Avro.{array_of, map_of, union_of, Fields, no_fields, field}
use Rattle.pm_avro_schema.specs.Avro.{Branches, no_branches, branch, takes_no_byte}
use Rattle.pm_base.specs.Outcome.{◌>>=◌}
use Rattle.pm_avro_schema.specs.Readable.{max_around}
use Rattle.pm_avro_schema.specs.declared.fault.AvroFault.{AvroFault}
use Rattle.pm_avro_schema.specs.declared.fault.AvroFault.TheVariants.{Unsupported, Bad}

-- the text isn't a schema
abbrev pub bad : {A : Type 0} → Result A AvroFault
bad = Err (Bad 0)

-- the schema has a type that isn't read
abbrev pub unsupported : {A : Type 0} → List ℕ → Result A AvroFault
unsupported what = Err (Unsupported (codes "type") what)

-- a text alone, or as `type` of an object that needs nothing else
abbrev pub named : List ℕ → Result Avro AvroFault
named name =
    if bytes_eq name (codes "null") then Ok null
    else (if bytes_eq name (codes "boolean") then Ok boolean
    else (if bytes_eq name (codes "int") then Ok int
    else (if bytes_eq name (codes "long") then Ok long
    else (if bytes_eq name (codes "bytes") then Ok bytes
    else (if bytes_eq name (codes "string") then Ok text
    else unsupported name)))))

-- an array or a map with n types around it
abbrev pub nested : {A : Type 0} → ℕ → Result A AvroFault → Result A AvroFault
nested n inner = if nat_lt max_around n then unsupported (codes "nesting") else inner

-- the array of such items
abbrev pub array_with : Avro → Result Avro AvroFault
array_with t = if takes_no_byte t then unsupported (codes "empty item") else Ok (array_of t)

abbrev pub array_from : Result Avro AvroFault → Result Avro AvroFault
array_from items = items >>= array_with

-- the map with such values
abbrev pub map_from : Result Avro AvroFault → Result Avro AvroFault
map_from values = values >>= λ t. Ok (map_of t)

-- an object by its `type`, with n types around it, and what its other attributes mean
abbrev pub object_with : Option (List ℕ) → ℕ → Result Fields AvroFault → Result Avro AvroFault → Result Avro AvroFault
    → Result Avro AvroFault
object_with None n fields items values = bad
object_with (Some name) n fields items values =
    if bytes_eq name (codes "record") then (fields >>= λ fs. Ok (record_of fs))
    else (if bytes_eq name (codes "array") then nested n (array_from items)
    else (if bytes_eq name (codes "map") then nested n (map_from values)
    else named name))

-- a field's name, which no field before it has, and its type
abbrev pub field_with : Option (List ℕ) → List (List ℕ) → Result Avro AvroFault → Result (List ℕ × Avro) AvroFault
field_with None before kind = bad
field_with (Some name) before kind =
    if list_any (λ other. bytes_eq other name) before then bad
    else (kind >>= λ t. Ok (name, t))

-- the text at an attribute
abbrev pub text_in : Members → List ℕ → Option (List ℕ)
text_in ms key = option_and_then as_str (get_member key ms)

abbrev mutual
  -- the type that a value means, with n types around it
  pub type_at : Data → ℕ → Result Avro AvroFault
  type_at json_null n = bad
  type_at (json_boolean b) n = bad
  type_at (number x) n = bad
  type_at (string name) n = named name
  type_at (array ds) n = branches_at ds (n + 1) >>= λ ts. Ok (union_of ts)
  type_at (object ms) n = object_with (text_in ms (codes "type")) n
      (fields_in ms (codes "fields") (n + 1))
      (type_in ms (codes "items") (n + 1))
      (type_in ms (codes "values") (n + 1))

  -- the types of a list
  pub branches_at : Items → ℕ → Result Branches AvroFault
  branches_at no_items n = Ok no_branches
  branches_at (item d ds) n = type_at d n >>= λ t. branches_at ds n >>= λ ts. Ok (branch t ts)

  -- the type at an attribute
  pub type_in : Members → List ℕ → ℕ → Result Avro AvroFault
  type_in no_members key n = bad
  type_in (member other d ms) key n =
      match_ordering (slice_cmp nat_cmp key other) (type_in ms key n) (type_at d n) (type_in ms key n)

  -- the fields at an attribute
  pub fields_in : Members → List ℕ → ℕ → Result Fields AvroFault
  fields_in no_members key n = bad
  fields_in (member other d ms) key n =
      match_ordering (slice_cmp nat_cmp key other) (fields_in ms key n) (fields_from d n) (fields_in ms key n)

  -- the fields of a record that has the list of them
  pub fields_from : Data → ℕ → Result Fields AvroFault
  fields_from json_null n = bad
  fields_from (json_boolean b) n = bad
  fields_from (number x) n = bad
  fields_from (string name) n = bad
  fields_from (array ds) n = fields_at ds [] n
  fields_from (object ms) n = bad

  -- the fields of a list, after fields of these names
  pub fields_at : Items → List (List ℕ) → ℕ → Result Fields AvroFault
  fields_at no_items before n = Ok no_fields
  fields_at (item d ds) before n =
      field_at d before n >>= λ f. fields_at ds (before ++ f.0 ∷ []) n >>= λ fs. Ok (field f.0 f.1 fs)

  -- a field, after fields of these names
  pub field_at : Data → List (List ℕ) → ℕ → Result (List ℕ × Avro) AvroFault
  field_at json_null before n = bad
  field_at (json_boolean b) before n = bad
  field_at (number x) before n = bad
  field_at (string name) before n = bad
  field_at (array ds) before n = bad
  field_at (object ms) before n =
      field_with (text_in ms (codes "name")) before (type_in ms (codes "type") n)

-- a value that a text may have
abbrev pub json_type : Option Data → Result Avro AvroFault
json_type None = bad
json_type (Some d) = type_at d 0

-- the type that a text means
abbrev pub parsed_type : List ℕ → Result Avro AvroFault
parsed_type schema = json_type (if is_utf8 schema then read schema else None)
