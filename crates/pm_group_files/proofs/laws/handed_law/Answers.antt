use Rattle.pm_group_files.proofs.Facts.{handed_known}
use Rattle.pm_group_files.proofs.laws.handed_law.Goals as goal

pub returns : goal.returns
returns c = λ a m new groups f p hands known. handed_known a m groups new f p hands known
