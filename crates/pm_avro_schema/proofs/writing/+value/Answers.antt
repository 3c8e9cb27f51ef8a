use Rattle.std.proofs.Common.{map, sym, ap₂, ◌∙◌, arith}
use Rattle.std.proofs.lemmas.List.{map-append}
use Rattle.serde_json.specs.View.{view as json_view}
use Rattle.pm_avro_schema.proofs.Written.{field_json, fields_json-next, fields_json-end, fields_records-next}
use Rattle.pm_avro_schema.proofs.Written.{branches_json-next, branches_json-end, branches_records-next}
use Rattle.pm_avro_schema.proofs.writing.+value.Goals as goal

pub field_values-loop-field-preserved : goal.field_values-loop-field-preserved
field_values-loop-field-preserved t c =
    let fs = c.deref-field-items.result.now in
    let i = c.loop-field.field-index in
    let written = c.in_ok-field_value.ensures ∙ ap₂ field_json c.as_str.ensures c.in_ok-kind.ensures.value in
    let counted = fields_records-next fs i c.field-item.result c.loop-field-test.true c.field-item.is in
    record {
      values =
          rw (c.in_ok-push.ensures.items, map-append json_view)
          (sym (fields_json-next (map json_view c.loop-field.values.items) fs i c.loop-field.begun c.json_value.new.begun c.field-item.result (json_view c.in_ok-field_value.field-0)
          c.loop-field-test.true c.field-item.is written c.in_ok-kind.ensures.begun)
          ∙ c.loop-field.invariant.values);
      begun = let before = c.loop-field.invariant.begun in let more = c.in_ok-kind.ensures.begun in omega arith;
    }

pub field_values-returns-clause-value : goal.field_values-returns-clause-value
field_values-returns-clause-value t c =
    fields_json-end (map json_view c.loop-field.values.items) c.args.fields.now.items c.loop-field.field-index c.loop-field.begun _
    (rw c.deref-field-items.ensures.value at c.loop-field-test.false) (rw c.deref-field-items.ensures.value at c.loop-field.invariant.values)

pub branch_values-loop-branch-preserved : goal.branch_values-loop-branch-preserved
branch_values-loop-branch-preserved t c =
    let ts = c.deref-branch-items.result.now in
    let i = c.loop-branch.branch-index in
    let counted = branches_records-next ts i c.branch-item.result c.loop-branch-test.true c.branch-item.is in
    record {
      values =
          rw (c.in_ok-push.ensures.items, map-append json_view)
          (sym (branches_json-next (map json_view c.loop-branch.values.items) ts i c.loop-branch.begun c.json_value.new.begun c.branch-item.result (json_view c.in_ok-json_value.field-0)
          c.loop-branch-test.true c.branch-item.is c.in_ok-json_value.ensures.value c.in_ok-json_value.ensures.begun)
          ∙ c.loop-branch.invariant.values);
      begun = let before = c.loop-branch.invariant.begun in let more = c.in_ok-json_value.ensures.begun in omega arith;
    }

pub branch_values-returns-clause-value : goal.branch_values-returns-clause-value
branch_values-returns-clause-value t c =
    branches_json-end (map json_view c.loop-branch.values.items) c.args.branches.now.items c.loop-branch.branch-index c.loop-branch.begun _
    (rw c.deref-branch-items.ensures.value at c.loop-branch-test.false) (rw c.deref-branch-items.ensures.value at c.loop-branch.invariant.values)
