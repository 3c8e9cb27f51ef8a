use Rattle.pm_avro_data.proofs.Lengths.{shortest_is}
use Rattle.pm_avro_data.proofs.laws.shortest_law.Goals as goal

pub returns : goal.returns
returns c = shortest_is
