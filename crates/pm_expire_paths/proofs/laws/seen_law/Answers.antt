use Rattle.pm_expire_paths.proofs.SeenLemmas.{dropped-seen, first-seen, next-seen}
use Rattle.pm_expire_paths.proofs.laws.seen_law.Goals as goal

pub returns-clause-first : goal.returns-clause-first
returns-clause-first c = first-seen

pub returns-clause-next : goal.returns-clause-next
returns-clause-next c = next-seen

pub returns-clause-dropped : goal.returns-clause-dropped
returns-clause-dropped c = dropped-seen
