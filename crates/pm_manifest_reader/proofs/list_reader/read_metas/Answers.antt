use Rattle.std.proofs.Common.{◌≡◌, Some, None, is_some, sym, ap}
use Rattle.pm_record.specs.File.{seen}
use Rattle.pm_record.specs.Record.{indexes_in}
use Rattle.pm_record.proofs.Facts.{answers_taken, answers_untaken}
use Rattle.pm_manifest.specs.Listed.{has_meta_fields, meta_fields, meta_in}
use Rattle.pm_manifest_reader.proofs.list_reader.read_metas.Goals as goal

pub returns-in-Some : goal.returns-in-Some
returns-in-Some c = λ bytes opened.
    let found : Some c.in-Some.fields ≡ indexes_in meta_fields c.args.file.now.kind = rw (c.in-Some.is, c.kind.ensures.kind) at c.in_ok-fields.ensures in
    answers_taken has_meta_fields meta_in c.args.path.now bytes c.args.file.now opened (ap is_some (sym found)) (seen (λ v. v.items) c.read_records.result) c.read_records.ensures

pub returns-in-None : goal.returns-in-None
returns-in-None c = λ bytes opened.
    let found : None ≡ indexes_in meta_fields c.args.file.now.kind = rw (c.in-None.is, c.kind.ensures.kind) at c.in_ok-fields.ensures in
    answers_untaken has_meta_fields meta_in c.args.path.now bytes c.args.file.now opened (ap is_some (sym found)) c.damaged.result c.damaged.ensures
