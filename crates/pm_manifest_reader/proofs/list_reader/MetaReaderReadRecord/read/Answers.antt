use Rattle.std.proofs.Common.{map}
use Rattle.pm_avro_schema.specs.View as types
use Rattle.pm_avro_data.specs.Datum.{view}
use Rattle.pm_manifest.specs.Listed.{meta_fields}
use Rattle.pm_manifest_reader.proofs.ReadLemmas.{selected_many}
use Rattle.pm_manifest_reader.proofs.TakenLemmas.{meta_taken}
use Rattle.pm_manifest_reader.proofs.list_reader.MetaReaderReadRecord.read.Goals as goal

pub returns-in-Some : goal.returns-in-Some
returns-in-Some c =
    let ds = map view c.in-Some.values.items in
    let found = rw c.in-Some.is at (c.in_ok-values.ensures meta_fields c.requires.of_kind) in
    let many = selected_many meta_fields (types.view c.args.kind.now) (view c.args.datum) ds c.requires.of_type found in
    rw (← found, meta_taken ds many) c.read_meta.ensures
