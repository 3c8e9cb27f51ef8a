use Rattle.pm_avro_file.proofs.Writes.{whole}
use Rattle.pm_avro_file.proofs.laws.begun_file_law.Goals as goal

pub returns : goal.returns
returns c = λ t blocks marker bytes begun. whole t marker blocks bytes begun
