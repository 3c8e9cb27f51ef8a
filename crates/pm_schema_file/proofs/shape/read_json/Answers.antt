use Rattle.std.proofs.lemmas.Bool.{false≢true}
use Rattle.pm_schema_file.proofs.JsonLemmas.{json_of-some, json_of-none}
use Rattle.pm_schema_file.proofs.shape.read_json.Goals as goal

pub returns-in-Ok : goal.returns-in-Ok
returns-in-Ok c = json_of-some c.args.text.now _ c.in-Ok.ensures.ok.0 c.in-Ok.ensures.ok.1

pub returns-in-Err-2 : goal.returns-in-Err-2
returns-in-Err-2 c = json_of-none c.args.text.now (c.in-Err.ensures.err (λ is. absurd (false≢true (c.if-is_memory.ensures.1 is))))
