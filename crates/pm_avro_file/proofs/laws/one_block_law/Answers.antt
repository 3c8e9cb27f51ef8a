use Rattle.pm_avro_file.proofs.Blocks.{block_one, block_shorter}
use Rattle.pm_avro_file.proofs.laws.one_block_law.Goals as goal

pub returns-clause-one : goal.returns-clause-one
returns-clause-one c = λ t ds es marker source rest other b k. block_one t marker ds es source rest other b k

pub returns-clause-shorter : goal.returns-clause-shorter
returns-clause-shorter c = λ t ds marker source rest b. block_shorter t marker ds source rest b
