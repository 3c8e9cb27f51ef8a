use Rattle.serde_json.specs.View.{view}
use Rattle.pm_values.specs.declared.refusal.Why.TheVariants as whys
use Rattle.pm_schema.specs.Reading.{bad_draft}
use Rattle.pm_schema.specs.Stated.{json_of}
use Rattle.pm_schema_file.proofs.ShapeLemmas.{refused-misses}
use Rattle.pm_schema_file.proofs.read.json_of_draft.Goals as goal

pub returns-in-Err : goal.returns-in-Err
returns-in-Err c = refused-misses view c.in-Err.flaw (bad_draft whys.Json) (json_of c.args.line.now) c.bad_draft.result c.in-Err.ensures c.bad_draft.ensures
