use Rattle.pm_commit.proofs.StillLemmas.{knows-still}
use Rattle.pm_commit.proofs.laws.known_law.Goals as goal

pub returns : goal.returns
returns c = λ e m other f after p q stands advances apart known. knows-still c.unnamed_law.ensures.others c.plan_law.ensures c.ready_law.ensures.given
    c.own_files_law.ensures e other f after p q stands advances m apart known
