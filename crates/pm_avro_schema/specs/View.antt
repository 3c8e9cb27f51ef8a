-- The type that an `AvroType` stands for.
use Rattle.std.specs.Prelude.{ℕ, List, [], ◌∷◌, map}
use Rattle.pm_avro_schema.specs.Avro.{Avro, null, boolean, int, long, bytes, text, record_of, array_of, map_of}
use Rattle.pm_avro_schema.specs.Avro.{union_of, Fields, no_fields, field, Branches, no_branches, branch}
use Rattle.pm_avro_schema.specs.declared.kind.AvroType.{AvroType, fold-AvroType}
use Rattle.pm_avro_schema.specs.declared.kind.AvroType.TheOpen.{AvroType-F}

abbrev pub fields_of : List (List ℕ × Avro) → Fields
fields_of [] = no_fields
fields_of (f ∷ fs) = field f.0 f.1 (fields_of fs)

abbrev pub branches_of : List Avro → Branches
branches_of [] = no_branches
branches_of (t ∷ ts) = branch t (branches_of ts)

-- one level, with each type inside already seen
abbrev pub view_step : AvroType-F Avro → Avro
view_step AvroType-F.Null = null
view_step AvroType-F.Boolean = boolean
view_step AvroType-F.Int = int
view_step AvroType-F.Long = long
view_step AvroType-F.Bytes = bytes
view_step AvroType-F.Text = text
view_step (AvroType-F.Record fs) = record_of (fields_of fs.items)
view_step (AvroType-F.Array t) = array_of t.value
view_step (AvroType-F.Map t) = map_of t.value
view_step (AvroType-F.Union ts) = union_of (branches_of ts.items)

-- the type that contracts see
abbrev pub view : AvroType → Avro
view = fold-AvroType Avro view_step

-- a field that is seen as its name and its type
abbrev pub field_view : List ℕ × AvroType → List ℕ × Avro
field_view f = (f.0, view f.1)

abbrev pub fields_view : List (List ℕ × AvroType) → Fields
fields_view fs = fields_of (map field_view fs)

abbrev pub branches_view : List AvroType → Branches
branches_view ts = branches_of (map view ts)
