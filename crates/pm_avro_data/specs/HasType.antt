-- Which data are of a type.
use Rattle.std.specs.Prelude.{ℕ, zero, suc, ◌^◌, ◌<◌}
use Rattle.std.specs.List.{AllByRecursion}
use Rattle.pm_avro_schema.specs.Avro as types
use Rattle.pm_avro_schema.specs.Avro.{Avro, Fields, no_fields, field, Branches, no_branches, branch}
use Rattle.pm_avro_data.specs.Datum.{Data, null, boolean, int, long, bytes, text, record_of, array_of}
use Rattle.pm_avro_data.specs.Datum.{map_of, union_of, Items, no_items, item, items, entries}

abbrev mutual
  -- the datum is of the type; the index of a union's branch is an int
  pub HasType : Avro → Data → Type 0
  HasType types.null null = Unit {0}
  HasType types.boolean (boolean b) = Unit {0}
  HasType types.int (int z) = Unit {0}
  HasType types.long (long z) = Unit {0}
  HasType types.bytes (bytes bs) = Unit {0}
  HasType types.text (text bs) = Unit {0}
  HasType (types.record_of fs) (record_of ds) = HaveTypes fs ds
  HasType (types.array_of t) (array_of ds) = AllByRecursion (HasType t) (items ds)
  HasType (types.map_of t) (map_of es) = AllByRecursion (λ e. HasType t e.1) (entries es)
  HasType (types.union_of ts) (union_of k d) = (k < 2 ^ 31) × HasBranch ts k d
  HasType t d = ⊥

  -- one datum for each field, in order
  pub HaveTypes : Fields → Items → Type 0
  HaveTypes no_fields no_items = Unit {0}
  HaveTypes (field name t fs) (item d ds) = HasType t d × HaveTypes fs ds
  HaveTypes fs ds = ⊥

  -- the datum is of the branch at this index
  pub HasBranch : Branches → ℕ → Data → Type 0
  HasBranch no_branches k d = ⊥
  HasBranch (branch t ts) zero d = HasType t d
  HasBranch (branch t ts) (suc k) d = HasBranch ts k d
