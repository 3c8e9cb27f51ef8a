use Rattle.std.proofs.Common.{rules}
use Rattle.pm_read_schema.proofs.FaultLemmas.{shown}
use Rattle.pm_read_schema.proofs.machine.after_schema.Goals as goal

pub returns-clause-refuses : goal.returns-clause-refuses
returns-clause-refuses c =
    shown c.args.id c.args.found c.as_str.result.now c.as_bytes.result.now c.in-Err-read_schema.refusal (search rules) (search rules) c.in-Err-read_schema.ensures

pub with_origin-requires : goal.with_origin-requires
with_origin-requires c =
    c.declared_law.ensures.file c.as_str.result.now c.as_bytes.result.now c.in-Ok-read_schema.schema
    ((c.schema_law.ensures.exact c.as_str.result.now c.as_bytes.result.now c.in-Ok-read_schema.schema).0 c.in-Ok-read_schema.ensures)
