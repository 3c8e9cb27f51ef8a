-- Which types are read.
use Rattle.std.specs.Prelude.{◌≡◌, ℕ, ◌+◌, ◌≤◌, max, List, Bool, false, ◌||◌}
use Rattle.std.specs.Str.{bytes_eq}
use Rattle.serde_json.specs.Read.{max_depth}
use Rattle.pm_avro_schema.specs.Avro.{Avro, null, boolean, int, long, bytes, text, record_of}
use Rattle.pm_avro_schema.specs.Avro.{array_of, map_of, union_of, Fields, no_fields, field}
use Rattle.pm_avro_schema.specs.Avro.{Branches, no_branches, branch, takes_no_byte}

-- some field has this name
abbrev pub has_name : List ℕ → Fields → Bool
has_name name no_fields = false
has_name name (field other t fs) = bytes_eq name other || has_name name fs

-- at most this many types stand around an array or a map
abbrev pub max_around : ℕ
max_around = 32

-- the type, with n types around it, keeps to the bounds: no array or map is too deep, the items of
-- arrays take a byte, and the fields of a record have different names
abbrev mutual
  pub KeepsBounds : Avro → ℕ → Type 0
  KeepsBounds null n = Unit {0}
  KeepsBounds boolean n = Unit {0}
  KeepsBounds int n = Unit {0}
  KeepsBounds long n = Unit {0}
  KeepsBounds bytes n = Unit {0}
  KeepsBounds text n = Unit {0}
  KeepsBounds (record_of fs) n = FieldsKeepBounds fs (n + 1)
  KeepsBounds (array_of t) n = (n ≤ max_around) × (takes_no_byte t ≡ false) × KeepsBounds t (n + 1)
  KeepsBounds (map_of t) n = (n ≤ max_around) × KeepsBounds t (n + 1)
  KeepsBounds (union_of ts) n = BranchesKeepBounds ts (n + 1)

  pub FieldsKeepBounds : Fields → ℕ → Type 0
  FieldsKeepBounds no_fields n = Unit {0}
  FieldsKeepBounds (field name t fs) n = (has_name name fs ≡ false) × KeepsBounds t n × FieldsKeepBounds fs n

  pub BranchesKeepBounds : Branches → ℕ → Type 0
  BranchesKeepBounds no_branches n = Unit {0}
  BranchesKeepBounds (branch t ts) n = KeepsBounds t n × BranchesKeepBounds ts n

-- how deep the lists and objects of the type's shortest text nest
abbrev mutual
  pub levels : Avro → ℕ
  levels null = 0
  levels boolean = 0
  levels int = 0
  levels long = 0
  levels bytes = 0
  levels text = 0
  levels (record_of fs) = fields_levels fs + 2
  levels (array_of t) = levels t + 1
  levels (map_of t) = levels t + 1
  levels (union_of ts) = branches_levels ts + 1

  pub fields_levels : Fields → ℕ
  fields_levels no_fields = 0
  fields_levels (field name t fs) = max (levels t + 1) (fields_levels fs)

  pub branches_levels : Branches → ℕ
  branches_levels no_branches = 0
  branches_levels (branch t ts) = max (levels t) (branches_levels ts)

-- the types that some text means
pub record IsReadable (t : Avro) : Type 0 where
  pub bounds : KeepsBounds t 0
  pub levels : levels t ≤ max_depth
