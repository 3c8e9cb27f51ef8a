-- Private: values of a record's fields that are taken one after another.
use Rattle.std.specs.Prelude.{List, [], ◌∷◌, map}
use Rattle.std.specs.Vec.Iter.{into_iter_items}
use Rattle.pm_avro_data.specs.Datum.{Data, null, view}
use Rattle.pm_manifest_reader.specs.declared.field_values.FieldValues.{FieldValues}

-- Private: the values that are left
abbrev pub all_left : FieldValues → List Data
all_left values = map view (into_iter_items values.left)

-- Private: the first of them, and null where there is none
unfoldable pub first : List Data → Data
first [] = null
first (d ∷ ds) = d

-- Private: those after it
unfoldable pub later : List Data → List Data
later [] = []
later (d ∷ ds) = ds
