use Rattle.pm_avro_file.proofs.LawLemmas.{unread}
use Rattle.pm_avro_file.proofs.laws.unread_file_law.Goals as goal

pub returns : goal.returns
returns c = unread
