use Rattle.std.proofs.Common.{◌≡◌, ◌++◌, map}
use Rattle.std.specs.Vec.Iter.{into_iter_items}
use Rattle.pm_avro_schema.specs.View as types
use Rattle.pm_avro_data.specs.Datum.{view}
use Rattle.pm_run.specs.Rows.{Opened, all_judged, judged, placed}
use Rattle.pm_run_records.proofs.row_reader.RowReader.read_rows.Given as goal

abbrev pub invariant-loop-datum : goal.invariant-loop-datum
invariant-loop-datum l = record {
  parts : l.yielded ++ into_iter_items l.datum-iterator ≡ l.fn.data.items;
  done : (o : Opened) → o.form ≡ l.self.form → o.changes ≡ l.self.changes → o.file.kind ≡ types.view l.kind
      → judged o l.before (placed l.offset (map view l.yielded)) ≡ all_judged l.rows.items;
}
