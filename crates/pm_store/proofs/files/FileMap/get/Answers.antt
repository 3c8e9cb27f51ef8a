use Rattle.std.proofs.Common.{◌∙◌}
use Rattle.pm_store.proofs.FileMapLaws.{get-entries}
use Rattle.pm_store.proofs.files.FileMap.get.Goals as goal

pub returns : goal.returns
returns c = rw (← c.self.view_is) (c.get.ensures.value ∙ get-entries c.self.inside.files.entries c.args.path.now)
