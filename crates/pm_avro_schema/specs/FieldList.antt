-- Private: the fields of a record while they are read, and their names in order.
use Rattle.std.specs.Prelude.{◌≡◌, ℕ, List, map, String}
use Rattle.std.specs.BTreeSet.{BTreeSet, contains_text}
use Rattle.std.specs.List.{list_any}
use Rattle.std.specs.Str.{bytes_eq}
use Rattle.std.specs.declared.alloc.Global.{Global}
use Rattle.pm_avro_schema.specs.declared.kind.AvroType.{AvroType}

abbrev pub NamedTypes : Type 0
NamedTypes = List (List ℕ × AvroType)

abbrev pub name_of : List ℕ × AvroType → List ℕ
name_of f = f.0

-- the names of fields
abbrev pub names : NamedTypes → List (List ℕ)
names fs = map name_of fs

-- the set has the names of the fields
abbrev pub AreNames : BTreeSet (String Global) → NamedTypes → Type 0
AreNames set fs = (name : List ℕ) → contains_text set name ≡ list_any (λ other. bytes_eq other name) (names fs)
