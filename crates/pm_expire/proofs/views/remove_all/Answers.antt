use Rattle.std.proofs.Common.{◌<◌, refl, sym, ap, subst}
use Rattle.pm_remove.specs.Remover as removing
use Rattle.pm_remove.specs.declared.phase.Phase as remove_phase
use Rattle.pm_expire.specs.Expirer.{views_all}
use Rattle.pm_expire.specs.declared.phase.Phase.TheVariants as phases
use Rattle.pm_expire.proofs.PhaseLemmas.{removals_left}
use Rattle.pm_expire.proofs.views.remove_all.Goals as goal

pub returns-in-Ok-clause-goes : goal.returns-in-Ok-clause-goes
returns-in-Ok-clause-goes c =
    views_all c.in-Ok.paths.items refl c.in-Ok.ensures
    (ap (λ m. phases.Remove c.args.announced.end c.args.announced.found.last m) c.new_remover.ensures)

pub returns-in-Ok-clause-is_expirer : goal.returns-in-Ok-clause-is_expirer
returns-in-Ok-clause-is_expirer c =
    subst (λ (m : remove_phase.Phase). 0 < removing.calls_left m) (sym c.new_remover.ensures)
    (removals_left c.args.announced c.in-Ok.paths.items c.args.dropping c.requires.some c.in-Ok.ensures)
