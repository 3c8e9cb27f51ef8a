use Rattle.std.proofs.Common.{◌≡◌, ◌++◌, map, Ok}
use Rattle.std.specs.Vec.Iter.{into_iter_items}
use Rattle.pm_avro_schema.specs.View as types
use Rattle.pm_avro_data.specs.Datum.{view}
use Rattle.pm_record.specs.File.{all_read}
use Rattle.pm_record.proofs.reading.read_data.Given as goal

abbrev pub invariant-loop-datum : goal.invariant-loop-datum
invariant-loop-datum g l = record {
  parts : l.yielded ++ into_iter_items l.datum-iterator ≡ l.fn.data.items;
  done : all_read (g.R.ReadRecord.reads l.records (types.view l.kind)) (map view l.yielded) ≡ Ok l.read.items;
}
