use Rattle.pm_read_schema.proofs.NameLemmas.{schema_id_is}
use Rattle.pm_read_schema.proofs.laws.schema_name_law.Goals as goal

pub returns : goal.returns
returns c = schema_id_is
