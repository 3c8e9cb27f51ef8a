use Rattle.std.proofs.Common.{◌≡◌, ◌++◌, ◌∷◌, [], ◌+◌, ◌<◌, ◌≤◌, length, get_or, drop, map, refl, sym, arith}
use Rattle.std.proofs.lemmas.Result.{err_from_is_err_and}
use Rattle.std.proofs.lemmas.List.{map_push}
use Rattle.pm_avro_schema.specs.View as types
use Rattle.pm_avro_data.specs.Datum.{view, entry_view}
use Rattle.pm_avro_data.specs.Reading.{with_earlier, body_at, head_at, entry_at, datum_at, fields_at}
use Rattle.pm_avro_data.proofs.Readings.{datum_shrinks, entry_shrinks}
use Rattle.pm_avro_data.proofs.Loops.{drop_next, drop_none, fails_all, fields_more, fields_fail}
use Rattle.pm_avro_data.proofs.Loops.{fields_end, branch_found, branch_missing, items_more, items_fail}
use Rattle.pm_avro_data.proofs.Loops.{items_end, body_whole, body_partial, body_fail, way_start}
use Rattle.pm_avro_data.proofs.Loops.{way_more, way_shorter, way_end, way_headless, way_fails}
use Rattle.pm_avro_data.proofs.reading.+decode.Goals as goal

pub read_branch-returns-in-Some : goal.read_branch-returns-in-Some
read_branch-returns-in-Some t c =
    let h = c.in-Some.ensures.lookup in
    let is : c.in-Some.kind.now ≡ get_or c.args.branches.now.items c.args.index c.in-Some.kind.now = rw c.deref.ensures.value at h.1 in
    let lt : c.args.index < length c.args.branches.now.items = rw c.deref.ensures.value at h.3.0 in
    rw (branch_found c.args.branches.now.items c.args.index c.in-Some.kind.now c.args.bytes.now lt is) c.read_datum.ensures

pub read_branch-returns-in-None : goal.read_branch-returns-in-None
read_branch-returns-in-None t c =
    let h = c.in-None.ensures.lookup in
    let le : length c.args.branches.now.items ≤ c.args.index = rw c.deref.ensures.value at h.3 in
    (refl, branch_missing c.args.branches.now.items c.args.index c.args.bytes.now le)

pub read_fields-returns-in_err-value : goal.read_fields-returns-in_err-value
read_fields-returns-in_err-value t c =
    let p = err_from_is_err_and c.from_residual-in_err-value.result c.from_residual-in_err-value.ensures.1 in
    let f = c.field-item.result in
    let next = drop_next c.deref-field-items.result.now c.loop-field.field-index f c.loop-field-test.true c.field-item.is in
    let inv : with_earlier (map view c.loop-field.values.items) (fields_at (types.fields_view (f ∷ drop (c.loop-field.field-index + 1) c.deref-field-items.result.now)) c.loop-field.rest.now) ≡ fields_at (types.fields_view c.args.fields.now.items) c.args.bytes.now = rw next at c.loop-field.invariant in
    rw (p.1, p.2) (fails_all c.in_err-value.field-0.0 (datum_at (types.view f.1) c.loop-field.rest.now) c.in_err-value.ensures _
    (fields_fail (map view c.loop-field.values.items) f.0 (types.view f.1) _ c.loop-field.rest.now _ inv))

pub read_fields-loop-field-preserved : goal.read_fields-loop-field-preserved
read_fields-loop-field-preserved t c =
    let f = c.field-item.result in
    let next = drop_next c.deref-field-items.result.now c.loop-field.field-index f c.loop-field-test.true c.field-item.is in
    let inv : with_earlier (map view c.loop-field.values.items) (fields_at (types.fields_view (f ∷ drop (c.loop-field.field-index + 1) c.deref-field-items.result.now)) c.loop-field.rest.now) ≡ fields_at (types.fields_view c.args.fields.now.items) c.args.bytes.now = rw next at c.loop-field.invariant in
    let added : map view c.push.new.self.items ≡ map view c.loop-field.values.items ++ view c.in_ok-value.value ∷ [] = rw c.in_ok-push.ensures.items (map_push view c.loop-field.values.items c.in_ok-value.value) in
    rw added (fields_more (map view c.loop-field.values.items) f.0 (types.view f.1) _ c.loop-field.rest.now (view c.in_ok-value.value) c.in_ok-value.after.now _ c.in_ok-value.ensures inv)

pub read_fields-returns : goal.read_fields-returns
read_fields-returns t c =
    let none = drop_none c.deref-field-items.result.now c.loop-field.field-index c.loop-field-test.false in
    let inv : with_earlier (map view c.loop-field.values.items) (fields_at (types.fields_view []) c.loop-field.rest.now) ≡ fields_at (types.fields_view c.args.fields.now.items) c.args.bytes.now = rw none at c.loop-field.invariant in
    fields_end (map view c.loop-field.values.items) c.loop-field.rest.now _ inv

pub read_array-loop-items-init : goal.read_array-loop-items-init
read_array-loop-items-init t c = rw c.new-items.ensures.items (way_start (datum_at (types.view c.args.kind.now)) c.args.bytes.now)

pub read_array-returns-in_err-head : goal.read_array-returns-in_err-head
read_array-returns-in_err-head t c =
    let p = err_from_is_err_and c.from_residual.result c.from_residual.ensures.1 in
    rw (p.1, p.2) (fails_all c.in_err-head.field-0.0 (head_at c.loop-items.rest.now) c.in_err-head.ensures _
    (way_headless (datum_at (types.view c.args.kind.now)) (datum_shrinks (types.view c.args.kind.now)) (map view c.loop-items.items.items) c.loop-items.rest.now c.args.bytes.now c.loop-items.invariant))

pub read_array-returns-then-head-eq0 : goal.read_array-returns-then-head-eq0
read_array-returns-then-head-eq0 t c =
    way_end (datum_at (types.view c.args.kind.now)) (datum_shrinks (types.view c.args.kind.now)) (map view c.loop-items.items.items) c.loop-items.rest.now c.args.bytes.now c.in_ok-head.head c.in_ok-head.after.now c.loop-items.invariant c.in_ok-head.ensures c.if-head-eq0.true

pub read_array-returns-in_err-rest : goal.read_array-returns-in_err-rest
read_array-returns-in_err-rest t c =
    let p = err_from_is_err_and c.from_residual-in_err-rest.result c.from_residual-in_err-rest.ensures.1 in
    rw (p.1, p.2) (fails_all c.in_err-rest.field-0.0 (with_earlier (map view c.loop-items.items.items) (body_at (datum_at (types.view c.args.kind.now)) c.in_ok-head.head c.in_ok-head.after.now)) c.in_err-rest.ensures _
    (way_fails (datum_at (types.view c.args.kind.now)) (datum_shrinks (types.view c.args.kind.now)) (map view c.loop-items.items.items) c.loop-items.rest.now c.args.bytes.now c.in_ok-head.head c.in_ok-head.after.now c.loop-items.invariant c.in_ok-head.ensures c.if-head-eq0.false))

pub read_array-loop-items-smaller : goal.read_array-loop-items-smaller
read_array-loop-items-smaller t c =
    way_shorter (datum_at (types.view c.args.kind.now)) (datum_shrinks (types.view c.args.kind.now)) (map view c.loop-items.items.items) c.loop-items.rest.now c.args.bytes.now c.in_ok-head.head c.in_ok-head.after.now (map view c.read_items.new.items.items) c.in_ok-rest.rest.now c.in_ok-head.ensures c.in_ok-rest.ensures

pub read_array-loop-items-preserved : goal.read_array-loop-items-preserved
read_array-loop-items-preserved t c =
    way_more (datum_at (types.view c.args.kind.now)) (datum_shrinks (types.view c.args.kind.now)) (map view c.loop-items.items.items) c.loop-items.rest.now c.args.bytes.now c.in_ok-head.head c.in_ok-head.after.now (map view c.read_items.new.items.items) c.in_ok-rest.rest.now c.loop-items.invariant c.in_ok-head.ensures c.if-head-eq0.false c.in_ok-rest.ensures

pub read_items-returns-in_err-item : goal.read_items-returns-in_err-item
read_items-returns-in_err-item t c =
    let p = err_from_is_err_and c.from_residual.result c.from_residual.ensures.1 in
    rw (p.1, p.2) (fails_all c.in_err-item.field-0.0 (datum_at (types.view c.args.kind.now) c.loop.rest.now) c.in_err-item.ensures _
    (λ none. body_fail (datum_at (types.view c.args.kind.now)) (map view c.args.items.now.items) c.args.head c.args.bytes.now
    (items_fail (datum_at (types.view c.args.kind.now)) (map view c.loop.items.items) c.args.head.count c.loop.counter c.loop.rest.now _ c.loop-test.true c.loop.invariant.reads none)))

pub read_items-loop-preserved : goal.read_items-loop-preserved
read_items-loop-preserved t c =
    let added : map view c.push.new.self.items ≡ map view c.loop.items.items ++ view c.in_ok-item.item ∷ [] = rw c.in_ok-push.ensures.items (map_push view c.loop.items.items c.in_ok-item.item) in
    let shorter = datum_shrinks (types.view c.args.kind.now) c.loop.rest.now (view c.in_ok-item.item) c.in_ok-item.after.now c.in_ok-item.ensures in
    record {
      within = omega (arith, shorter, c.loop.invariant.within);
      reads = rw added (items_more (datum_at (types.view c.args.kind.now)) (map view c.loop.items.items) c.args.head.count c.loop.counter c.loop.rest.now (view c.in_ok-item.item) c.in_ok-item.after.now _ c.loop-test.true c.in_ok-item.ensures c.loop.invariant.reads);
    }

pub read_items-returns-then-is_whole : goal.read_items-returns-then-is_whole
read_items-returns-then-is_whole t c =
    body_whole (datum_at (types.view c.args.kind.now)) (map view c.args.items.now.items) c.args.head c.args.bytes.now (map view c.loop.items.items) c.loop.rest.now (sym c.if-is_whole.ensures)
    (items_end (datum_at (types.view c.args.kind.now)) (map view c.loop.items.items) c.args.head.count c.loop.counter c.loop.rest.now _ c.loop-test.false c.loop.invariant.reads)

pub read_items-returns-else-is_whole : goal.read_items-returns-else-is_whole
read_items-returns-else-is_whole t c = (
  refl,
  body_partial (datum_at (types.view c.args.kind.now)) (map view c.args.items.now.items) c.args.head c.args.bytes.now (map view c.loop.items.items) c.loop.rest.now (sym c.if-is_whole.ensures)
      (items_end (datum_at (types.view c.args.kind.now)) (map view c.loop.items.items) c.args.head.count c.loop.counter c.loop.rest.now _ c.loop-test.false c.loop.invariant.reads),
)

pub read_map-loop-entries-init : goal.read_map-loop-entries-init
read_map-loop-entries-init t c = rw c.new-entries.ensures.items (way_start (entry_at (datum_at (types.view c.args.kind.now))) c.args.bytes.now)

pub read_map-returns-in_err-head : goal.read_map-returns-in_err-head
read_map-returns-in_err-head t c =
    let p = err_from_is_err_and c.from_residual.result c.from_residual.ensures.1 in
    rw (p.1, p.2) (fails_all c.in_err-head.field-0.0 (head_at c.loop-entries.rest.now) c.in_err-head.ensures _
    (way_headless (entry_at (datum_at (types.view c.args.kind.now))) (entry_shrinks (types.view c.args.kind.now)) (map entry_view c.loop-entries.entries.items) c.loop-entries.rest.now c.args.bytes.now c.loop-entries.invariant))

pub read_map-returns-then-head-eq0 : goal.read_map-returns-then-head-eq0
read_map-returns-then-head-eq0 t c =
    way_end (entry_at (datum_at (types.view c.args.kind.now))) (entry_shrinks (types.view c.args.kind.now)) (map entry_view c.loop-entries.entries.items) c.loop-entries.rest.now c.args.bytes.now c.in_ok-head.head c.in_ok-head.after.now c.loop-entries.invariant c.in_ok-head.ensures c.if-head-eq0.true

pub read_map-returns-in_err-rest : goal.read_map-returns-in_err-rest
read_map-returns-in_err-rest t c =
    let p = err_from_is_err_and c.from_residual-in_err-rest.result c.from_residual-in_err-rest.ensures.1 in
    rw (p.1, p.2) (fails_all c.in_err-rest.field-0.0 (with_earlier (map entry_view c.loop-entries.entries.items) (body_at (entry_at (datum_at (types.view c.args.kind.now))) c.in_ok-head.head c.in_ok-head.after.now)) c.in_err-rest.ensures _
    (way_fails (entry_at (datum_at (types.view c.args.kind.now))) (entry_shrinks (types.view c.args.kind.now)) (map entry_view c.loop-entries.entries.items) c.loop-entries.rest.now c.args.bytes.now c.in_ok-head.head c.in_ok-head.after.now c.loop-entries.invariant c.in_ok-head.ensures c.if-head-eq0.false))

pub read_map-loop-entries-smaller : goal.read_map-loop-entries-smaller
read_map-loop-entries-smaller t c =
    way_shorter (entry_at (datum_at (types.view c.args.kind.now))) (entry_shrinks (types.view c.args.kind.now)) (map entry_view c.loop-entries.entries.items) c.loop-entries.rest.now c.args.bytes.now c.in_ok-head.head c.in_ok-head.after.now (map entry_view c.read_entries.new.entries.items) c.in_ok-rest.rest.now c.in_ok-head.ensures c.in_ok-rest.ensures

pub read_map-loop-entries-preserved : goal.read_map-loop-entries-preserved
read_map-loop-entries-preserved t c =
    way_more (entry_at (datum_at (types.view c.args.kind.now))) (entry_shrinks (types.view c.args.kind.now)) (map entry_view c.loop-entries.entries.items) c.loop-entries.rest.now c.args.bytes.now c.in_ok-head.head c.in_ok-head.after.now (map entry_view c.read_entries.new.entries.items) c.in_ok-rest.rest.now c.loop-entries.invariant c.in_ok-head.ensures c.if-head-eq0.false c.in_ok-rest.ensures

pub read_entries-returns-in_err-entry : goal.read_entries-returns-in_err-entry
read_entries-returns-in_err-entry t c =
    let p = err_from_is_err_and c.from_residual.result c.from_residual.ensures.1 in
    rw (p.1, p.2) (fails_all c.in_err-entry.field-0.0 (entry_at (datum_at (types.view c.args.kind.now)) c.loop.rest.now) c.in_err-entry.ensures _
    (λ none. body_fail (entry_at (datum_at (types.view c.args.kind.now))) (map entry_view c.args.entries.now.items) c.args.head c.args.bytes.now
    (items_fail (entry_at (datum_at (types.view c.args.kind.now))) (map entry_view c.loop.entries.items) c.args.head.count c.loop.counter c.loop.rest.now _ c.loop-test.true c.loop.invariant.reads none)))

pub read_entries-loop-preserved : goal.read_entries-loop-preserved
read_entries-loop-preserved t c =
    let added : map entry_view c.push.new.self.items ≡ map entry_view c.loop.entries.items ++ entry_view c.in_ok-entry.entry ∷ [] = rw c.in_ok-push.ensures.items (map_push entry_view c.loop.entries.items c.in_ok-entry.entry) in
    let shorter = entry_shrinks (types.view c.args.kind.now) c.loop.rest.now (entry_view c.in_ok-entry.entry) c.in_ok-entry.after.now c.in_ok-entry.ensures in
    record {
      within = omega (arith, shorter, c.loop.invariant.within);
      reads = rw added (items_more (entry_at (datum_at (types.view c.args.kind.now))) (map entry_view c.loop.entries.items) c.args.head.count c.loop.counter c.loop.rest.now (entry_view c.in_ok-entry.entry) c.in_ok-entry.after.now _ c.loop-test.true c.in_ok-entry.ensures c.loop.invariant.reads);
    }

pub read_entries-returns-then-is_whole : goal.read_entries-returns-then-is_whole
read_entries-returns-then-is_whole t c =
    body_whole (entry_at (datum_at (types.view c.args.kind.now))) (map entry_view c.args.entries.now.items) c.args.head c.args.bytes.now (map entry_view c.loop.entries.items) c.loop.rest.now (sym c.if-is_whole.ensures)
    (items_end (entry_at (datum_at (types.view c.args.kind.now))) (map entry_view c.loop.entries.items) c.args.head.count c.loop.counter c.loop.rest.now _ c.loop-test.false c.loop.invariant.reads)

pub read_entries-returns-else-is_whole : goal.read_entries-returns-else-is_whole
read_entries-returns-else-is_whole t c = (
  refl,
  body_partial (entry_at (datum_at (types.view c.args.kind.now))) (map entry_view c.args.entries.now.items) c.args.head c.args.bytes.now (map entry_view c.loop.entries.items) c.loop.rest.now (sym c.if-is_whole.ensures)
      (items_end (entry_at (datum_at (types.view c.args.kind.now))) (map entry_view c.loop.entries.items) c.args.head.count c.loop.counter c.loop.rest.now _ c.loop-test.false c.loop.invariant.reads),
)
