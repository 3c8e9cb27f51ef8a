use Rattle.pm_machine.proofs.Facts.{Stands-moves}
use Rattle.pm_machine.proofs.laws.stands_law.Goals as goal

pub returns : goal.returns
returns g c old new before after lasts alone =
    Stands-moves g.M.Meaning.Folder (g.M.Meaning.Change old) g.M.Meaning.others (g.M.Meaning.knows old) (g.M.Meaning.knows new) lasts before after alone
