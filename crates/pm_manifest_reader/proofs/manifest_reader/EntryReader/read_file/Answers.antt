use Rattle.std.proofs.Common.{map}
use Rattle.pm_avro_schema.specs.View as types
use Rattle.pm_avro_data.specs.Datum.{view}
use Rattle.pm_manifest.specs.Entries.{file_fields}
use Rattle.pm_manifest_reader.specs.Taken.{file_found}
use Rattle.pm_manifest_reader.proofs.ReadLemmas.{selected_many}
use Rattle.pm_manifest_reader.proofs.TakenLemmas.{file_taken}
use Rattle.pm_manifest_reader.proofs.manifest_reader.EntryReader.read_file.Goals as goal

pub returns-in-Some : goal.returns-in-Some
unfolding file_found
returns-in-Some c =
    let t = types.view c.args.kind.now in
    let ds = map view c.in-Some.values.items in
    let found = rw c.in-Some.is at (c.in_ok-values.ensures file_fields c.requires.of_kind) in
    let many = selected_many file_fields t (view c.args.datum) ds c.requires.of_type found in
    rw (← found, file_taken c.args.self.now.shape c.args.partition.now t ds many) c.read_meta.ensures
