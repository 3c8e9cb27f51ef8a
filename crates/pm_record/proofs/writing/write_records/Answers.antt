use Rattle.std.proofs.Common.{◌∙◌, ap, map}
use Rattle.pm_avro_schema.specs.View as types
use Rattle.pm_avro_data.specs.Datum.{view}
use Rattle.pm_avro_data.specs.HasType.{HasType}
use Rattle.pm_avro_file.specs.Views.{blocks_view}
use Rattle.pm_record.specs.File.{joined}
use Rattle.pm_record.proofs.WriteLemmas.{each_block}
use Rattle.pm_record.proofs.writing.write_records.Goals as goal

pub write_file-requires-clause-of_type : goal.write_file-requires-clause-of_type
write_file-requires-clause-of_type c =
    each_block (HasType (types.view c.args.kind.now)) (blocks_view c.deref.result.now) (map view c.args.data.items)
    (ap (λ v. joined (blocks_view v)) c.deref.ensures.value ∙ c.in_ok-blocks.ensures.same) c.requires.of_type
