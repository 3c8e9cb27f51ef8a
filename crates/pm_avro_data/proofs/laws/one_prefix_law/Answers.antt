use Rattle.pm_avro_data.proofs.Prefixes.{one_prefix}
use Rattle.pm_avro_data.proofs.laws.one_prefix_law.Goals as goal

pub returns : goal.returns
returns c = one_prefix
