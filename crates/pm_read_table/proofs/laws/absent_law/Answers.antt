use Rattle.pm_read_table.proofs.Facts.{again_absent}
use Rattle.pm_read_table.proofs.laws.absent_law.Goals as goal

pub returns : goal.returns
returns c = again_absent
