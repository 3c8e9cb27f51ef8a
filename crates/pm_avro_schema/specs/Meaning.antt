-- The type that a JSON text declares (Apache Avro specification, "Schema Declaration"). Attributes
-- that aren't named here mean nothing.
use Rattle.std.specs.Prelude.{◌≡◌, ◌⊎◌, ℕ, ◌+◌, ◌≤◌, List, codes, Some, false}
use Rattle.std.specs.Str.{IsUtf8}
use Rattle.serde_json.specs.Data.{Data, string, array, Items, no_items, item}
use Rattle.serde_json.specs.Find.{get}
use Rattle.serde_json.specs.Read.{read}
use Rattle.pm_avro_schema.specs.Avro.{Avro, null, boolean, int, long, bytes, text, record_of}
use Rattle.pm_avro_schema.specs.Avro.{array_of, map_of, union_of, Fields, no_fields, field}
use Rattle.pm_avro_schema.specs.Avro.{Branches, no_branches, branch, takes_no_byte}
use Rattle.pm_avro_schema.specs.Readable.{has_name, max_around}

-- an object with this `type`
abbrev pub HasType : List ℕ → Data → Type 0
HasType name d = get (codes "type") d ≡ Some (string name)

-- the text alone, or an object with it as its `type`
abbrev pub IsNamed : List ℕ → Data → Type 0
IsNamed name d = (d ≡ string name) ⊎ HasType name d

abbrev mutual
  -- the value, with n types around it, declares the type
  pub Declares : Avro → Data → ℕ → Type 0
  Declares null d n = IsNamed (codes "null") d
  Declares boolean d n = IsNamed (codes "boolean") d
  Declares int d n = IsNamed (codes "int") d
  Declares long d n = IsNamed (codes "long") d
  Declares bytes d n = IsNamed (codes "bytes") d
  Declares text d n = IsNamed (codes "string") d
  Declares (record_of fs) d n = HasType (codes "record") d
      × (ds : Items) × (get (codes "fields") d ≡ Some (array ds))
      × DeclareFields fs ds (n + 1)
  Declares (array_of t) d n = HasType (codes "array") d
      × (n ≤ max_around)
      × (e : Data) × (get (codes "items") d ≡ Some e)
      × Declares t e (n + 1)
      × (takes_no_byte t ≡ false)
  Declares (map_of t) d n = HasType (codes "map") d
      × (n ≤ max_around)
      × (e : Data) × (get (codes "values") d ≡ Some e)
      × Declares t e (n + 1)
  Declares (union_of ts) d n = (ds : Items) × (d ≡ array ds) × DeclareBranches ts ds (n + 1)

  -- the values are objects that have the fields' names, all different, and declare their types
  pub DeclareFields : Fields → Items → ℕ → Type 0
  DeclareFields no_fields ds n = ds ≡ no_items
  DeclareFields (field name t fs) ds n = (d e : Data) × (rest : Items) × (ds ≡ item d rest)
      × (get (codes "name") d ≡ Some (string name))
      × (get (codes "type") d ≡ Some e)
      × Declares t e n
      × (has_name name fs ≡ false)
      × DeclareFields fs rest n

  -- the values declare the types
  pub DeclareBranches : Branches → Items → ℕ → Type 0
  DeclareBranches no_branches ds n = ds ≡ no_items
  DeclareBranches (branch t ts) ds n = (d : Data) × (rest : Items) × (ds ≡ item d rest)
      × Declares t d n
      × DeclareBranches ts rest n

-- the text declares the type
abbrev pub TypeOf : List ℕ → Avro → Type 0
TypeOf schema t = IsUtf8 schema × (d : Data) × (read schema ≡ Some d) × Declares t d 0
