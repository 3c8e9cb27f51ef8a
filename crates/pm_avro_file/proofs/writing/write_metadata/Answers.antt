use Rattle.std.proofs.Common.{List, ℕ, ◌++◌, ap, ◌∙◌}
use Rattle.pm_avro_schema.specs.Avro as avro
use Rattle.pm_avro_schema.specs.Writing.{avro_text}
use Rattle.pm_avro_schema.specs.View as types
use Rattle.pm_avro_data.specs.Datum.{view}
use Rattle.pm_avro_file.specs.Container.{metadata}
use Rattle.pm_avro_file.specs.Writing.{written_pairs}
use Rattle.pm_avro_file.proofs.Parts.{datum_as}
use Rattle.pm_avro_file.proofs.writing.write_metadata.Goals as goal

pub returns-clause-read : goal.returns-clause-read
returns-clause-read c = λ rest.
    datum_as (types.view c.in_ok-kind.kind) (avro.map_of avro.bytes) (view c.in_ok-datum.datum) (metadata (written_pairs (avro_text (types.view c.args.kind.now)))) (c.in_ok-bytes.bytes.items ++ rest) rest
    c.in_ok-kind.ensures (c.in_ok-datum.ensures ∙ ap (λ (x : List ℕ). metadata (written_pairs x)) c.in_ok-schema.ensures.text) (c.in_ok-bytes.ensures.datum rest)
