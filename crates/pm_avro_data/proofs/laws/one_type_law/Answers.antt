use Rattle.pm_avro_data.proofs.Types.{datum_typed}
use Rattle.pm_avro_data.proofs.laws.one_type_law.Goals as goal

pub returns : goal.returns
returns c = datum_typed
