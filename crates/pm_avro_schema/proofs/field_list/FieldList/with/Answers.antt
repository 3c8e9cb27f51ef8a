use Rattle.std.proofs.Common.{true, string_bytes, ◌∙◌}
use Rattle.std.proofs.lemmas.Map.Text.{btree_set_updates_text}
use Rattle.pm_avro_schema.proofs.FieldNames.{AreNames-push}
use Rattle.pm_avro_schema.proofs.field_list.FieldList.with.Goals as goal

pub invariant_of-result : goal.invariant_of-result
invariant_of-result c =
    let before = c.self.inside in
    let name = c.in_ok-from_str.field-0 in
    let added = btree_set_updates_text (string_bytes name) before.names c.insert.new.self true c.in_ok-insert.ensures.updates in
    rw c.in_ok-push.ensures.items
    (AreNames-push before.names c.insert.new.self before.fields.items c.args.field name c.self.invariant (c.in_ok-from_str.ensures.ok ∙ c.as_str.ensures) added)
