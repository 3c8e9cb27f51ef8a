use Rattle.std.proofs.Common.{◌≡◌, map, take}
use Rattle.std.specs.List.{AllByRecursion}
use Rattle.pm_avro_data.specs.Datum.{view}
use Rattle.pm_manifest.specs.Entries.{IsWithin, entry_data}
use Rattle.pm_manifest_writer.proofs.manifest_writer.entry_records.Given as goal

abbrev pub invariant-loop-entry : goal.invariant-loop-entry
invariant-loop-entry l = record {
  records : map view l.records.items ≡ map (entry_data l.shape) (take l.entry-index l.entries);
  within : AllByRecursion (IsWithin l.shape) (take l.entry-index l.entries);
}
