use Rattle.pm_model_contents.proofs.ContentLemmas.{folders-after, named-after, none-folders, none-named}
use Rattle.pm_model_contents.proofs.laws.live_law.Goals as goal

pub returns-clause-none : goal.returns-clause-none
returns-clause-none c = λ s. (none-named, none-folders s)

pub returns-clause-named : goal.returns-clause-named
returns-clause-named c = named-after c.live_law.ensures

pub returns-clause-folders : goal.returns-clause-folders
returns-clause-folders c = folders-after
