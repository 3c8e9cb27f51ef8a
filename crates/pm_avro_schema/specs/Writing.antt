-- The text that a type is written as: compact JSON with the keys in order.
use Rattle.std.specs.Prelude.{ℕ, ◌+◌, List, ◌∷◌, codes, decimal}
use Rattle.serde_json.specs.Data.{Data, string, array, object, Items, no_items, item, no_members, member}
use Rattle.serde_json.specs.Written.{compact_text}
use Rattle.pm_avro_schema.specs.Avro.{Avro, null, boolean, int, long, bytes, text, record_of, array_of, map_of}
use Rattle.pm_avro_schema.specs.Avro.{union_of, Fields, no_fields, field, Branches, no_branches, branch}

-- how many records stand in a type
abbrev mutual
  pub records : Avro → ℕ
  records null = 0
  records boolean = 0
  records int = 0
  records long = 0
  records bytes = 0
  records text = 0
  records (record_of fs) = fields_records fs + 1
  records (array_of t) = records t
  records (map_of t) = records t
  records (union_of ts) = branches_records ts

  pub fields_records : Fields → ℕ
  fields_records no_fields = 0
  fields_records (field name t fs) = records t + fields_records fs

  pub branches_records : Branches → ℕ
  branches_records no_branches = 0
  branches_records (branch t ts) = records t + branches_records ts

-- the name of the record that begins after k others
abbrev pub record_name : ℕ → List ℕ
record_name k = 114 ∷ decimal k

-- the JSON of a type that begins after k records
abbrev mutual
  pub json_of : Avro → ℕ → Data
  json_of null k = string (codes "null")
  json_of boolean k = string (codes "boolean")
  json_of int k = string (codes "int")
  json_of long k = string (codes "long")
  json_of bytes k = string (codes "bytes")
  json_of text k = string (codes "string")
  json_of (record_of fs) k = object
      (member (codes "fields") (array (fields_json fs (k + 1)))
      (member (codes "name") (string (record_name k))
      (member (codes "type") (string (codes "record")) no_members)))
  json_of (array_of t) k = object
      (member (codes "items") (json_of t k)
      (member (codes "type") (string (codes "array")) no_members))
  json_of (map_of t) k = object
      (member (codes "type") (string (codes "map"))
      (member (codes "values") (json_of t k) no_members))
  json_of (union_of ts) k = array (branches_json ts k)

  pub fields_json : Fields → ℕ → Items
  fields_json no_fields k = no_items
  fields_json (field name t fs) k = item
      (object
      (member (codes "name") (string name)
      (member (codes "type") (json_of t k) no_members)))
      (fields_json fs (k + records t))

  pub branches_json : Branches → ℕ → Items
  branches_json no_branches k = no_items
  branches_json (branch t ts) k = item (json_of t k) (branches_json ts (k + records t))

-- the text of a type
abbrev pub avro_text : Avro → List ℕ
avro_text t = compact_text (json_of t 0)
