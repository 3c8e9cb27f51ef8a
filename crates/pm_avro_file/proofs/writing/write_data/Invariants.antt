use Rattle.std.proofs.Common.{map, take}
use Rattle.pm_avro_schema.specs.View as types
use Rattle.pm_avro_data.specs.Datum.{view}
use Rattle.pm_avro_file.proofs.Writes.{AreWritten}
use Rattle.pm_avro_file.proofs.writing.write_data.Given as goal

abbrev pub invariant-loop-datum : goal.invariant-loop-datum
invariant-loop-datum l = AreWritten (types.view l.kind) (map view (take l.datum-index l.datum-items)) l.content.items
