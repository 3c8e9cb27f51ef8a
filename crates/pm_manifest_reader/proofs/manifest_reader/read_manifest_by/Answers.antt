use Rattle.std.proofs.lemmas.Result.{err_from_is_err_and}
use Rattle.pm_record.proofs.Facts.{answers_unopened}
use Rattle.pm_manifest.specs.Entries.{entry_in, has_entry_fields}
use Rattle.pm_manifest.specs.Shape.{shape_of}
use Rattle.pm_manifest_reader.proofs.manifest_reader.read_manifest_by.Goals as goal

pub returns-in_err-file : goal.returns-in_err-file
returns-in_err-file c =
    let p = err_from_is_err_and c.from_residual.result c.from_residual.ensures.1 in
    rw (p.1, p.2) (answers_unopened has_entry_fields (entry_in (shape_of c.args.schema.now)) c.args.path.now c.args.bytes c.in_err-file.field-0.0 c.in_err-file.ensures)
