use Rattle.std.proofs.Common.{◌≡◌, ◌++◌, drop, length, map}
use Rattle.pm_avro_data.specs.Datum.{view}
use Rattle.pm_record.specs.Record.{AreApart, AreBelow, at_indexes}
use Rattle.pm_record.proofs.selection.take_values.Given as goal

abbrev pub invariant-loop-index : goal.invariant-loop-index
invariant-loop-index l = record {
  apart : AreApart (drop l.index-index l.index-items);
  below : AreBelow (drop l.index-index l.index-items) (length l.left.items);
  taken : map view l.taken.items ++ at_indexes (drop l.index-index l.index-items) (map view l.left.items)
      ≡ at_indexes l.index-items (map view l.fn.values.items);
}
