use Rattle.std.proofs.Common.{◌≡◌, map, take}
use Rattle.std.specs.List.{AllByRecursion}
use Rattle.pm_avro_data.specs.Datum.{view}
use Rattle.pm_manifest.specs.Listed.{IsListed, meta_data}
use Rattle.pm_manifest_writer.proofs.list_writer.meta_records.Given as goal

abbrev pub invariant-loop-meta : goal.invariant-loop-meta
invariant-loop-meta l = record {
  records : map view l.records.items ≡ map (meta_data l.shape.partition) (take l.meta-index l.metas);
  within : AllByRecursion IsListed (take l.meta-index l.metas);
}
