use Rattle.std.proofs.Common.{map, sym}
use Rattle.pm_avro_schema.specs.View as types
use Rattle.pm_avro_data.specs.Datum.{view}
use Rattle.pm_record.proofs.Facts.{selected_typed}
use Rattle.pm_manifest.specs.Entries.{entry_fields}
use Rattle.pm_manifest_reader.proofs.ReadLemmas.{selected_many}
use Rattle.pm_manifest_reader.proofs.TakenLemmas.{entry_taken}
use Rattle.pm_manifest_reader.proofs.manifest_reader.EntryReaderReadRecord.read.Goals as goal

pub read_entry-requires-clause-of_type : goal.read_entry-requires-clause-of_type
read_entry-requires-clause-of_type c =
    let found = rw c.in-Some.is at (c.in_ok-values.ensures entry_fields c.requires.of_kind.0) in
    selected_typed entry_fields (types.view c.args.kind.now) (view c.args.datum) (map view c.in-Some.values.items) c.requires.of_type (sym found)

pub returns-in-Some : goal.returns-in-Some
returns-in-Some c =
    let t = types.view c.args.kind.now in
    let ds = map view c.in-Some.values.items in
    let found = rw c.in-Some.is at (c.in_ok-values.ensures entry_fields c.requires.of_kind.0) in
    let many = selected_many entry_fields t (view c.args.datum) ds c.requires.of_type found in
    rw (← found, entry_taken c.args.self.now.shape t ds many) c.read_entry.ensures
