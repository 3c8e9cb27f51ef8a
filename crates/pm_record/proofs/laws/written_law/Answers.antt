use Rattle.pm_record.proofs.FileLemmas.{written_read}
use Rattle.pm_record.proofs.laws.written_law.Goals as goal

pub returns : goal.returns
returns g c = λ t most ds marker bytes path takes reads xs. written_read c.whole_file_law.ensures takes reads path bytes xs t most ds marker
