use Rattle.pm_values.proofs.NameLemmas.{name_of-injective, name_of-longer}
use Rattle.pm_values.proofs.laws.names_law.Goals as goal

pub returns-clause-one : goal.returns-clause-one
returns-clause-one c = name_of-injective

pub returns-clause-longer : goal.returns-clause-longer
returns-clause-longer c = name_of-longer
