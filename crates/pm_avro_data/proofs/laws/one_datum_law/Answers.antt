use Rattle.pm_avro_data.proofs.Prefixes.{one_of_bytes}
use Rattle.pm_avro_data.proofs.laws.one_datum_law.Goals as goal

pub returns : goal.returns
returns c = one_of_bytes
