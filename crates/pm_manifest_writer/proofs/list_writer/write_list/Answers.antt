use Rattle.std.proofs.Common.{map}
use Rattle.pm_record.specs.File.{IsFileOf}
use Rattle.pm_manifest.specs.Listed.{has_meta_fields, meta_data, meta_in}
use Rattle.pm_manifest.specs.Shape.{shape_of}
use Rattle.pm_manifest.specs.«Type».{meta_type}
use Rattle.pm_manifest.proofs.AgainLemmas.{metas_again}
use Rattle.pm_manifest_writer.proofs.KindLemmas.{meta_has, metas_typed}
use Rattle.pm_manifest_writer.proofs.list_writer.write_list.Goals as goal

pub write_records-requires-clause-of_type : goal.write_records-requires-clause-of_type
write_records-requires-clause-of_type c = rw (c.in_ok-meta_kind.ensures, c.in_ok-records.ensures.records) (metas_typed _ _)

pub returns-in-Ok-clause-again : goal.returns-in-Ok-clause-again
returns-in-Ok-clause-again c = λ path.
    let kinds = (shape_of c.args.schema.now).partition in
    let file : IsFileOf meta_type 1024 (map (meta_data kinds) c.args.metas.now) c.args.marker c.in-Ok.bytes.items =
    rw (c.in_ok-meta_kind.ensures, c.in_ok-records.ensures.records, c.in_ok-shape.ensures) at c.in-Ok.ensures.file in
    c.written_law.ensures meta_type 1024 (map (meta_data kinds) c.args.metas.now) c.args.marker c.in-Ok.bytes.items path has_meta_fields meta_in c.args.metas.now
    file meta_has (metas_again kinds c.args.metas.now c.in_ok-records.ensures.within)
