use Rattle.pm_model_changelog.proofs.StandingLemmas.{lookup-log}
use Rattle.pm_model_changelog.proofs.laws.lookup_log_law.Goals as goal

pub returns : goal.returns
returns c = λ s g entries since runs t e holds fit is goes taken still named.
    lookup-log s g entries since runs t e holds fit goes taken still c.keys_law.ensures c.log_law.ensures c.quiet_law.ensures c.rows_law.ensures is named
