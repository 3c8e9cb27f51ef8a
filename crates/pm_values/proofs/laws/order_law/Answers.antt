use Rattle.pm_values.proofs.Lemmas.{key_cmp-ties, group_cmp-ties}
use Rattle.pm_values.proofs.laws.order_law.Goals as goal

pub returns-clause-keys : goal.returns-clause-keys
returns-clause-keys c = key_cmp-ties

pub returns-clause-groups : goal.returns-clause-groups
returns-clause-groups c = group_cmp-ties
