use Rattle.pm_avro_file.proofs.LawLemmas.{damaged}
use Rattle.pm_avro_file.proofs.laws.damaged_file_law.Goals as goal

pub returns : goal.returns
returns c = damaged
