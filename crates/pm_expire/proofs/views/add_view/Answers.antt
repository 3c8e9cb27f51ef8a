use Rattle.pm_expire.specs.Expirer.{view_read}
use Rattle.pm_expire.specs.declared.phase.Phase.{Phase}
use Rattle.pm_expire.proofs.PhaseLemmas.{if_ok}
use Rattle.pm_expire.proofs.views.add_view.Goals as goal

pub returns-in-Ok-clause-goes : goal.returns-in-Ok-clause-goes
returns-in-Ok-clause-goes c =
    if_ok c.go_on.result _ _ (λ (later : Phase) after. view_read c.in-Ok.dropping c.requires.ready c.requires.read c.in-Ok.ensures after) c.go_on.ensures.goes
