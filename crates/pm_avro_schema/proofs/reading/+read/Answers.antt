use Rattle.std.proofs.Common.{◌≡◌, ℕ, map, codes, Vec, BTreeMap, String, Global, ap, sym, ◌∙◌, arith, rules}
use Rattle.std.proofs.lemmas.List.{map-append}
use Rattle.std.proofs.lemmas.Result.{err_from_is_err_and}
use Rattle.pm_avro_schema.specs.Attribute.{object_at}
use Rattle.pm_avro_schema.specs.FieldList.{name_of, names}
use Rattle.serde_json.specs.Data.{depth, items_depth}
use Rattle.serde_json.specs.View.{items_view, members_view}
use Rattle.serde_json.specs.View.{view as json_view}
use Rattle.serde_json.specs.declared.value.Value.{Value, Object}
use Rattle.serde_json.proofs.Views.{view-Array, view-Object}
use Rattle.pm_avro_schema.specs.Reading.{type_at}
use Rattle.pm_avro_schema.specs.View.{view, field_view}
use Rattle.pm_avro_schema.proofs.Attributes.{depth-get, type_at-object, field_at-named, field_at-fails}
use Rattle.pm_avro_schema.proofs.Loops.{depth-value, with_branches-next, with_branches-end}
use Rattle.pm_avro_schema.proofs.Loops.{with_fields-next, with_fields-end}
use Rattle.pm_avro_schema.proofs.reading.+read.Goals as goal

pub read_attribute-read_type-requires : goal.read_attribute-read_type-requires
read_attribute-read_type-requires t c =
    let less = depth-get c.args.name.now (json_view c.args.value.now) (json_view c.in-Some.inner.now) (sym c.in-Some.ensures) in
    (search rules, omega arith)

pub read_branches-read_type-requires : goal.read_branches-read_type-requires
read_branches-read_type-requires t c =
    let less = depth-value c.args.values.now.items c.deref-value-items.result.now c.loop-value.value-index c.value-item.result c.deref-value-items.ensures.value c.loop-value-test.true c.value-item.is in
    (search rules, omega arith)

pub read_branches-loop-value-preserved : goal.read_branches-loop-value-preserved
read_branches-loop-value-preserved t c =
    rw (c.in_ok-push.ensures.items, map-append view)
    (sym (with_branches-next (map view c.loop-value.found.items) c.deref-value-items.result.now c.loop-value.value-index c.args.around c.value-item.result _ c.loop-value-test.true c.value-item.is c.in_ok-read_type.ensures)
    ∙ c.loop-value.invariant)

pub read_branches-returns : goal.read_branches-returns
read_branches-returns t c =
    rw (sym c.deref-value-items.ensures.value)
    (with_branches-end (map view c.loop-value.found.items) c.deref-value-items.result.now c.loop-value.value-index c.args.around _ c.loop-value-test.false c.loop-value.invariant)

pub read_field-returns-in_err-kind : goal.read_field-returns-in_err-kind
read_field-returns-in_err-kind t c =
    let p = err_from_is_err_and c.from_residual.result c.from_residual.ensures.1 in
    rw (p.1, p.2) (field_at-fails (json_view c.args.value.now) (names c.args.before.now) c.args.around c.in-Some.name.now _ c.in-Some.ensures (sym c.if-has_name.ensures) c.in_err-kind.ensures)

pub read_field-returns : goal.read_field-returns
read_field-returns t c =
    field_at-named (json_view c.args.value.now) (names c.args.before.now) c.args.around c.in-Some.name.now c.in-Some.ensures (sym c.if-has_name.ensures) ∙ rw (c.in_ok-kind.ensures, c.in_ok-from_str.ensures)

pub read_field_list-read_field-requires : goal.read_field_list-read_field-requires
read_field_list-read_field-requires t c =
    let less = depth-value c.args.list.now.items c.deref-value-items.result.now c.loop-value.value-index c.value-item.result c.deref-value-items.ensures.value c.loop-value-test.true c.value-item.is in
    (search rules, omega arith)

pub read_field_list-loop-value-preserved : goal.read_field_list-loop-value-preserved
read_field_list-loop-value-preserved t c =
    rw (c.in_ok-found.ensures, map-append field_view, map-append name_of)
    (sym (with_fields-next (map field_view c.loop-value.found) (names c.loop-value.found) c.deref-value-items.result.now c.loop-value.value-index c.args.around c.value-item.result _ c.loop-value-test.true c.value-item.is
    c.in_ok-field.ensures)
    ∙ c.loop-value.invariant)

pub read_field_list-returns : goal.read_field_list-returns
read_field_list-returns t c =
    rw (sym c.deref-value-items.ensures.value, c.into_fields.ensures)
    (with_fields-end (map field_view c.loop-value.found) (names c.loop-value.found) c.deref-value-items.result.now c.loop-value.value-index c.args.around _ c.loop-value-test.false c.loop-value.invariant)

pub read_fields-read_field_list-requires : goal.read_fields-read_field_list-requires
read_fields-read_field_list-requires t c =
    let there = c.in-Some-Array in
    let less = depth-get (codes "fields") (json_view c.args.value.now) (json_view there.field-0.now) (sym there.ensures) in
    let deep = ap (λ (v : Value). depth (json_view v)) there.field-0-is ∙ ap depth (view-Array there.list) in
    let same = ap (λ (l : Vec Value Global). items_depth (items_view l.items)) there.list-is in
    (search rules, omega arith)

type_at-seen : (v : Value) (m : BTreeMap (String Global) Value) (n : ℕ) → v ≡ Object m → type_at (json_view v) n ≡ object_at (json_view v) n
type_at-seen v m n is =
    let seen = ap json_view is ∙ view-Object m in
    rw seen (type_at-object (members_view m.entries) n)

pub read_type-returns-in-Object : goal.read_type-returns-in-Object
read_type-returns-in-Object t c =
    rw (type_at-seen c.args.value.now c.in-Object.field-0 c.args.around c.in-Object.is) c.read_object.ensures
