use Rattle.pm_model_changelog.proofs.StandingLemmas.{full-log}
use Rattle.pm_model_changelog.proofs.laws.full_log_law.Goals as goal

pub returns : goal.returns
returns c = λ s g entries since runs t e holds fit is goes taken still all named.
    full-log s g entries since runs t e holds fit goes taken still c.log_law.ensures is all named
