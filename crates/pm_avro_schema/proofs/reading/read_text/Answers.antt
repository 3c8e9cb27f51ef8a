use Rattle.std.proofs.lemmas.Bool.{false≢true}
use Rattle.serde_json.specs.View.{view as json_view}
use Rattle.pm_avro_schema.proofs.Facts.{parsed_type-read, parsed_type-none}
use Rattle.pm_avro_schema.proofs.reading.read_text.Goals as goal

pub returns-in-Ok : goal.returns-in-Ok
returns-in-Ok c =
    let found = c.in-Ok.ensures.ok in
    rw (parsed_type-read c.args.text.now (json_view c.in-Ok.value) found.0 found.1) c.read_type.ensures

pub returns-in-Err-2 : goal.returns-in-Err-2
returns-in-Err-2 c = parsed_type-none c.args.text.now (c.in-Err.ensures.err (λ is. absurd (false≢true (c.if-is_memory.ensures.1 is))))
