use Rattle.pm_words.proofs.NameLemmas.{name_is_plain}
use Rattle.pm_cli.proofs.execute.list_or_drop.Goals as goal

pub run_drop-requires : goal.run_drop-requires
run_drop-requires g c = name_is_plain c.in-Some.name (rw c.in-Some.is at c.requires)

pub returns-in-None-clause-done : goal.returns-in-None-clause-done
returns-in-None-clause-done g c = rw c.in-None.is c.run_consumers.ensures.listed

pub returns-in-Some-clause-done : goal.returns-in-Some-clause-done
returns-in-Some-clause-done g c = rw c.in-Some.is c.run_drop.ensures.removed
