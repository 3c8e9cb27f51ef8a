use Rattle.pm_store.specs.Files.{files_after}
use Rattle.pm_actors.proofs.WorldLemmas.{replaced, stepped}
use Rattle.pm_actors.proofs.laws.world_law.Goals as goal

pub returns-clause-steps : goal.returns-clause-steps
returns-clause-steps c = λ before later a new ops op. stepped c.others_law.ensures before later a ops new op

pub returns-clause-rests : goal.returns-clause-rests
returns-clause-rests c = λ before later a new ops keeps knows. replaced before later a new ops keeps (λ p. knows (files_after ops) p)
