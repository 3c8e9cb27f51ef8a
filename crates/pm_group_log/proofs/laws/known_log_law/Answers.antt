use Rattle.pm_group_log.proofs.KeptLemmas.{files-known}
use Rattle.pm_group_log.proofs.TellsLemmas.{is-told, only-memory}
use Rattle.pm_group_log.proofs.laws.known_log_law.Goals as goal

pub returns-clause-kept : goal.returns-clause-kept
returns-clause-kept c = λ f s g known kept held there. files-known f s g known kept held there

pub returns-clause-told : goal.returns-clause-told
returns-clause-told c = λ s chosen x log known is tells. is-told s chosen x known is log tells

pub returns-clause-memory : goal.returns-clause-memory
returns-clause-memory c = λ s chosen x e known is refuses. only-memory c.old_value_law.ensures.memory s chosen x e known is refuses
