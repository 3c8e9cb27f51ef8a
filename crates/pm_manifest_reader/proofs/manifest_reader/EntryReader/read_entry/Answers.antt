use Rattle.std.proofs.Common.{◌≡◌, map}
use Rattle.pm_avro_schema.specs.View as types
use Rattle.pm_avro_data.specs.Datum.{view}
use Rattle.pm_manifest_reader.specs.FieldValues.{first, later}
use Rattle.pm_manifest_reader.proofs.ReadLemmas.{file_typed}
use Rattle.pm_manifest_reader.proofs.manifest_reader.EntryReader.read_entry.Goals as goal

pub read_file-requires-clause-of_type : goal.read_file-requires-clause-of_type
read_file-requires-clause-of_type c =
    let ds = map view c.args.values.items in
    let last : view c.next-5.result ≡ first (later (later (later (later ds)))) = cc in
    rw (c.field_of.ensures, last) (file_typed (types.view c.args.kind.now) ds c.requires.of_type)
