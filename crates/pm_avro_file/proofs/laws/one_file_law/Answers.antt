use Rattle.pm_avro_file.proofs.LawLemmas.{file_one}
use Rattle.pm_avro_file.proofs.laws.one_file_law.Goals as goal

pub returns : goal.returns
returns c = file_one
