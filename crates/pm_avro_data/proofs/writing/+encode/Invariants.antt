use Rattle.std.proofs.Common.{◌≡◌, ◌++◌, map, drop}
use Rattle.pm_avro_data.specs.Datum.{view, items_of, entry_view, entries_of}
use Rattle.pm_avro_data.specs.Writing.{items_encoding, entries_encoding, ItemsFit, EntriesFit}
use Rattle.pm_avro_data.proofs.writing.+encode.Given as goal

abbrev pub invariant-push_items-loop-item : goal.invariant-push_items-loop-item
invariant-push_items-loop-item l = record {
  written : l.out.items ++ items_encoding (items_of (map view (drop l.item-index l.item-items))) ≡ l.fn.out.items ++ items_encoding (items_of (map view l.items.items));
  fits : ItemsFit (items_of (map view (drop l.item-index l.item-items))) → ItemsFit (items_of (map view l.items.items));
}

abbrev pub invariant-push_entries-loop-entry : goal.invariant-push_entries-loop-entry
invariant-push_entries-loop-entry l = record {
  written : l.out.items ++ entries_encoding (entries_of (map entry_view (drop l.entry-index l.entry-items))) ≡ l.fn.out.items ++ entries_encoding (entries_of (map entry_view l.entries.items));
  fits : EntriesFit (entries_of (map entry_view (drop l.entry-index l.entry-items))) → EntriesFit (entries_of (map entry_view l.entries.items));
}
