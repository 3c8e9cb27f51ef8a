use Rattle.std.proofs.Common.{◌≡◌, ◌+◌, ◌-◌, ◌*◌, drop, map, []}
use Rattle.serde_json.specs.View.{items_view}
use Rattle.pm_avro_schema.specs.FieldList.{names}
use Rattle.pm_avro_schema.specs.Reading.{branches_at, fields_at}
use Rattle.pm_avro_schema.specs.View.{view, field_view}
use Rattle.pm_avro_schema.proofs.Loops.{with_branches, with_fields}
use Rattle.pm_avro_schema.proofs.reading.+read.Given as goal

-- the branches so far and those to come are all branches
abbrev pub invariant-read_branches-loop-value : goal.invariant-read_branches-loop-value
invariant-read_branches-loop-value l =
    with_branches (map view l.found.items) (branches_at (items_view (drop l.value-index l.value-items)) l.around) ≡ branches_at (items_view l.value-items) l.around

-- the fields so far and those to come are all fields
abbrev pub invariant-read_field_list-loop-value : goal.invariant-read_field_list-loop-value
invariant-read_field_list-loop-value l =
    with_fields (map field_view l.found) (fields_at (items_view (drop l.value-index l.value-items)) (names l.found) l.around) ≡ fields_at (items_view l.value-items) [] l.around

-- the types that may still stand inside, and then the order of the calls
abbrev pub decreases-read_field_list : goal.decreases-read_field_list
decreases-read_field_list l = 8 * (128 - l.around) + 6

abbrev pub decreases-read_fields : goal.decreases-read_fields
decreases-read_fields l = 8 * (128 - l.around) + 7

abbrev pub decreases-read_branches : goal.decreases-read_branches
decreases-read_branches l = 8 * (128 - l.around) + 5

abbrev pub decreases-read_field : goal.decreases-read_field
decreases-read_field l = 8 * (128 - l.around) + 5

abbrev pub decreases-read_attribute : goal.decreases-read_attribute
decreases-read_attribute l = 8 * (128 - l.around) + 4

abbrev pub decreases-read_type : goal.decreases-read_type
decreases-read_type l = 8 * (128 - l.around) + 3

abbrev pub decreases-read_object : goal.decreases-read_object
decreases-read_object l = 8 * (128 - l.around) + 2

abbrev pub decreases-read_array : goal.decreases-read_array
decreases-read_array l = 8 * (128 - l.around) + 1

abbrev pub decreases-read_map : goal.decreases-read_map
decreases-read_map l = 8 * (128 - l.around) + 1
