use Rattle.std.proofs.Common.{codes}
use Rattle.pm_snapshot.proofs.NameLemmas.{number_after-some, number_after-found, prefixed-injective}
use Rattle.pm_snapshot.specs.Names.{id_in, floor_in}
use Rattle.pm_snapshot.proofs.laws.name_law.Goals as goal

pub returns-clause-id : goal.returns-clause-id
unfolding id_in
returns-clause-id c name id = (
  number_after-some (codes "snapshot-") name id,
  λ is. number_after-found
      (codes "snapshot-") name id is.0 is.1,
)

pub returns-clause-floor : goal.returns-clause-floor
unfolding floor_in
returns-clause-floor c name n = (
  number_after-some (codes "floor-") name n,
  λ is. number_after-found
      (codes "floor-") name n is.0 is.1,
)

pub returns-clause-different : goal.returns-clause-different
returns-clause-different c i j = prefixed-injective (codes "snapshot-") i j
