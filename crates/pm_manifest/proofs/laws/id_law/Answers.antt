use Rattle.pm_manifest.proofs.IdLemmas.{id_decides}
use Rattle.pm_manifest.proofs.laws.id_law.Goals as goal

pub returns : goal.returns
returns c = id_decides
