use Rattle.pm_record.proofs.FileLemmas.{file_one}
use Rattle.pm_record.proofs.laws.one_reading_law.Goals as goal

pub returns : goal.returns
returns g c = λ takes reads path bytes. file_one takes reads path bytes c.one_opening_law.ensures c.one_block_law.ensures.one
