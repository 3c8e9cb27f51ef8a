-- Avro's types: their parts, and which are read.
use Rattle.std.specs.Prelude.{ℕ, List, Bool, true, false, ◌&&◌}

mutual
  -- a type
  pub data Avro : Type 0 where
    null : Avro
    boolean : Avro
    int : Avro
    long : Avro
    bytes : Avro
    text : Avro
    record_of : Fields → Avro
    array_of : Avro → Avro
    map_of : Avro → Avro
    union_of : Branches → Avro

  -- a record's fields in order, each a name and a type
  pub data Fields : Type 0 where
    no_fields : Fields
    field : List ℕ → Avro → Fields → Fields

  -- a union's branches in order
  pub data Branches : Type 0 where
    no_branches : Branches
    branch : Avro → Branches → Branches

-- a datum of the type takes no byte: null, or a record of such
abbrev mutual
  pub takes_no_byte : Avro → Bool
  takes_no_byte null = true
  takes_no_byte boolean = false
  takes_no_byte int = false
  takes_no_byte long = false
  takes_no_byte bytes = false
  takes_no_byte text = false
  takes_no_byte (record_of fs) = take_no_byte fs
  takes_no_byte (array_of t) = false
  takes_no_byte (map_of t) = false
  takes_no_byte (union_of ts) = false

  pub take_no_byte : Fields → Bool
  take_no_byte no_fields = true
  take_no_byte (field name t fs) = takes_no_byte t && take_no_byte fs
