use Rattle.pm_avro_file.proofs.LawLemmas.{file_leads, leads_file}
use Rattle.pm_avro_file.proofs.laws.whole_file_law.Goals as goal

pub returns : goal.returns
returns c = λ t blocks marker bytes. (file_leads t blocks marker bytes, λ x. leads_file t blocks marker bytes x.0 x.1 x.2 x.3 x.4)
