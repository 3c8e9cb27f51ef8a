use Rattle.std.proofs.Common.{map}
use Rattle.pm_record.specs.File.{IsFileOf}
use Rattle.pm_manifest.specs.Entries.{entry_data, entry_in, has_entry_fields}
use Rattle.pm_manifest.specs.Shape.{shape_of}
use Rattle.pm_manifest.specs.«Type».{entry_type}
use Rattle.pm_manifest.proofs.AgainLemmas.{entries_again}
use Rattle.pm_manifest_writer.proofs.KindLemmas.{entries_typed, entry_has}
use Rattle.pm_manifest.proofs.ShapeLemmas.{shape_of-HasRest}
use Rattle.pm_manifest_writer.proofs.manifest_writer.write_manifest.Goals as goal

pub write_records-requires-clause-of_type : goal.write_records-requires-clause-of_type
write_records-requires-clause-of_type c =
    rw (c.in_ok-entry_kind.ensures, c.in_ok-records.ensures.records, c.in_ok-shape.ensures) (entries_typed (shape_of c.args.schema.now) c.args.entries.now)

pub returns-in-Ok-clause-again : goal.returns-in-Ok-clause-again
returns-in-Ok-clause-again c = λ all path.
    let s = shape_of c.args.schema.now in
    let file : IsFileOf entry_type 1024 (map (entry_data s) c.args.entries.now) c.args.marker c.in-Ok.bytes.items =
    rw (c.in_ok-entry_kind.ensures, c.in_ok-records.ensures.records, c.in_ok-shape.ensures) at c.in-Ok.ensures.file in
    c.written_law.ensures entry_type 1024 (map (entry_data s) c.args.entries.now) c.args.marker c.in-Ok.bytes.items path has_entry_fields (entry_in s) c.args.entries.now
    file entry_has (entries_again s c.args.entries.now (shape_of-HasRest c.args.schema.now) (rw c.in_ok-shape.ensures at c.in_ok-records.ensures.within) all)
