use Rattle.std.proofs.Common.{[]}
use Rattle.pm_avro_file.proofs.Typed.{block_typed, blocks_typed}
use Rattle.pm_avro_file.proofs.laws.reread_law.Goals as goal

pub returns-clause-reader : goal.returns-clause-reader
returns-clause-reader c = λ bytes r o. o.header.readable

pub returns-clause-block : goal.returns-clause-block
returns-clause-block c = block_typed

pub returns-clause-file : goal.returns-clause-file
returns-clause-file c = λ t blocks marker bytes f. (f.header.readable, blocks_typed t blocks marker f.start [] f.each)
