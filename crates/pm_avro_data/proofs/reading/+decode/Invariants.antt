use Rattle.std.proofs.Common.{◌≡◌, ◌-◌, ◌≤◌, length, map, drop}
use Rattle.pm_avro_schema.specs.View as types
use Rattle.pm_avro_data.specs.Datum.{view, entry_view}
use Rattle.pm_avro_data.specs.Reading.{with_earlier, items_at, entry_at, datum_at, fields_at}
use Rattle.pm_avro_data.proofs.Loops.{OnTheWay}
use Rattle.pm_avro_data.proofs.reading.+decode.Given as goal

abbrev pub invariant-read_fields-loop-field : goal.invariant-read_fields-loop-field
invariant-read_fields-loop-field l = with_earlier (map view l.values.items) (fields_at (types.fields_view (drop l.field-index l.field-items)) l.rest) ≡ fields_at (types.fields_view l.fields.items) l.bytes

abbrev pub invariant-read_array-loop-items : goal.invariant-read_array-loop-items
invariant-read_array-loop-items l = OnTheWay (datum_at (types.view l.kind)) (map view l.items.items) l.rest l.bytes

abbrev pub decreases-read_array-loop-items : goal.decreases-read_array-loop-items
decreases-read_array-loop-items l = length l.rest

abbrev pub invariant-read_map-loop-entries : goal.invariant-read_map-loop-entries
invariant-read_map-loop-entries l = OnTheWay (entry_at (datum_at (types.view l.kind))) (map entry_view l.entries.items) l.rest l.bytes

abbrev pub decreases-read_map-loop-entries : goal.decreases-read_map-loop-entries
decreases-read_map-loop-entries l = length l.rest

abbrev pub invariant-read_items-loop : goal.invariant-read_items-loop
invariant-read_items-loop l = record {
  within : length l.rest ≤ length l.bytes;
  reads : with_earlier (map view l.items.items) (items_at (datum_at (types.view l.kind)) (l.head.count - l.counter) l.rest)
      ≡ with_earlier (map view l.fn.items.items) (items_at (datum_at (types.view l.kind)) l.head.count l.bytes);
}

abbrev pub invariant-read_entries-loop : goal.invariant-read_entries-loop
invariant-read_entries-loop l = record {
  within : length l.rest ≤ length l.bytes;
  reads : with_earlier (map entry_view l.entries.items) (items_at (entry_at (datum_at (types.view l.kind))) (l.head.count - l.counter) l.rest)
      ≡ with_earlier (map entry_view l.fn.entries.items) (items_at (entry_at (datum_at (types.view l.kind))) l.head.count l.bytes);
}
