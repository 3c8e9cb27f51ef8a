use Rattle.pm_store.proofs.FileMapLaws.{entries_erased}
use Rattle.pm_store.proofs.files.FileMap.erase.Goals as goal

pub returns : goal.returns
returns c = rw (← c.self.view_is) (entries_erased c.self.inside.files.entries c.remove.new.self.entries c.args.path.now c.remove.ensures.updates.0)
