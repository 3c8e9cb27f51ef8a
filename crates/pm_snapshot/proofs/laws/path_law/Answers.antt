use Rattle.pm_snapshot.proofs.PathLemmas.{path-parts}
use Rattle.pm_snapshot.proofs.laws.path_law.Goals as goal

pub returns : goal.returns
returns c = path-parts (record { one = c.names_law.ensures.one; longer = c.names_law.ensures.longer })
