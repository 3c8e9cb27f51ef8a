use Rattle.std.proofs.Common.{◌≡◌, Some, None}
use Rattle.pm_record.specs.File.{seen}
use Rattle.pm_record.proofs.Facts.{answers_taken, answers_untaken}
use Rattle.pm_manifest.specs.Entries.{entry_in, has_entry_fields}
use Rattle.pm_manifest_reader.specs.Reader.{reader_in}
use Rattle.pm_manifest.specs.Shape.{shape_of}
use Rattle.pm_manifest_reader.proofs.ReadLemmas.{reader_none, reader_some}
use Rattle.pm_manifest_reader.proofs.manifest_reader.read_entries.Goals as goal

pub read_records-requires : goal.read_records-requires
read_records-requires c =
    let t = c.args.file.now.kind in
    let found : Some c.in-Some.reader ≡ reader_in c.in_ok-shape.shape t = rw (c.in-Some.is, c.kind.ensures.kind) at c.in_ok-reader.ensures in
    let r = reader_some c.in_ok-shape.shape t c.in-Some.reader found in
    record { of_kind = (r.fields, r.file_fields) }

pub returns-in-Some : goal.returns-in-Some
returns-in-Some c = λ bytes opened.
    let t = c.args.file.now.kind in
    let found : Some c.in-Some.reader ≡ reader_in c.in_ok-shape.shape t = rw (c.in-Some.is, c.kind.ensures.kind) at c.in_ok-reader.ensures in
    let r = reader_some c.in_ok-shape.shape t c.in-Some.reader found in
    let read = rw (r.shape, c.in_ok-shape.ensures) at c.read_records.ensures in
    answers_taken has_entry_fields (entry_in (shape_of c.args.schema.now)) c.args.path.now bytes c.args.file.now opened r.takes (seen (λ v. v.items) c.read_records.result) read

pub returns-in-None : goal.returns-in-None
returns-in-None c = λ bytes opened.
    let t = c.args.file.now.kind in
    let none : None ≡ reader_in c.in_ok-shape.shape t = rw (c.in-None.is, c.kind.ensures.kind) at c.in_ok-reader.ensures in
    answers_untaken has_entry_fields (entry_in (shape_of c.args.schema.now)) c.args.path.now bytes c.args.file.now opened (reader_none c.in_ok-shape.shape t none) c.damaged.result c.damaged.ensures
