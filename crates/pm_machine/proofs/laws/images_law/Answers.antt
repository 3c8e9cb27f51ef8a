use Rattle.pm_machine.proofs.Facts.{changes_by_images, image_changed}
use Rattle.pm_machine.proofs.laws.images_law.Goals as goal

pub returns : goal.returns
returns g c m call f h = (image_changed (g.M.Meaning.Change m) call f h, changes_by_images (g.M.Meaning.Change m) call f h)
