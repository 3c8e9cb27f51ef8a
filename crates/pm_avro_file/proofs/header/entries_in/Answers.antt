use Rattle.pm_avro_file.proofs.Seen.{entries_in-Map}
use Rattle.pm_avro_file.proofs.header.entries_in.Goals as goal

pub returns-in-Map : goal.returns-in-Map
returns-in-Map c = rw c.in-Map.is (entries_in-Map c.in-Map.entries)
