use Rattle.std.proofs.Common.{◌≡◌, length, map}
use Rattle.pm_avro_schema.specs.View as types
use Rattle.pm_avro_data.specs.Datum.{view}
use Rattle.pm_avro_data.specs.IsDatum.{IsDatum, AreItems}
use Rattle.pm_avro_file.proofs.block.read_data.Given as goal

abbrev pub invariant-loop : goal.invariant-loop
invariant-loop l = record {
  many : length l.data.items ≡ l.counter;
  read : AreItems (IsDatum (types.view l.kind)) (map view l.data.items) l.bytes l.rest;
}
