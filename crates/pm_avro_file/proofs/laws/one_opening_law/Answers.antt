use Rattle.pm_avro_file.proofs.LawLemmas.{opens_one}
use Rattle.pm_avro_file.proofs.laws.one_opening_law.Goals as goal

pub returns : goal.returns
returns c = opens_one
