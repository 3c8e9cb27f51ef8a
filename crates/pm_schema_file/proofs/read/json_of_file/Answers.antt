use Rattle.serde_json.specs.View.{view}
use Rattle.pm_values.specs.declared.refusal.Refusal.TheVariants as refusals
use Rattle.pm_schema.specs.Stated.{json_of}
use Rattle.pm_schema_file.proofs.ShapeLemmas.{refused-misses}
use Rattle.pm_schema_file.proofs.read.json_of_file.Goals as goal

pub returns-in-Err : goal.returns-in-Err
returns-in-Err c = refused-misses view c.in-Err.flaw (refusals.Damaged c.args.path.now 0) (json_of c.args.bytes.now) c.damaged.result c.in-Err.ensures c.damaged.ensures
