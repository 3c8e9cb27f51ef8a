use Rattle.std.proofs.Common.{◌≡◌, ◌+◌, drop, map}
use Rattle.serde_json.specs.View.{view as json_view}
use Rattle.pm_avro_schema.specs.Writing.{fields_json, branches_json, fields_records, branches_records}
use Rattle.pm_avro_schema.specs.View.{fields_view, branches_view}
use Rattle.pm_avro_schema.proofs.Written.{items_before}
use Rattle.pm_avro_schema.proofs.writing.+value.Given as goal

-- the fields so far and those to come are all fields, and so are their records
abbrev pub invariant-field_values-loop-field : goal.invariant-field_values-loop-field
invariant-field_values-loop-field l = record {
  values : items_before (map json_view l.values.items) (fields_json (fields_view (drop l.field-index l.field-items)) l.begun) ≡ fields_json (fields_view l.field-items) l.fn.begun;
  begun : l.begun + fields_records (fields_view (drop l.field-index l.field-items)) ≡ l.fn.begun + fields_records (fields_view l.field-items);
}

-- the branches so far and those to come are all branches, and so are their records
abbrev pub invariant-branch_values-loop-branch : goal.invariant-branch_values-loop-branch
invariant-branch_values-loop-branch l = record {
  values : items_before (map json_view l.values.items) (branches_json (branches_view (drop l.branch-index l.branch-items)) l.begun) ≡ branches_json (branches_view l.branch-items) l.fn.begun;
  begun : l.begun + branches_records (branches_view (drop l.branch-index l.branch-items)) ≡ l.fn.begun + branches_records (branches_view l.branch-items);
}
