use Rattle.std.proofs.Common.{◌<◌, refl, ap, arith}
use Rattle.pm_expire.specs.Expirer.{none_goes, some_goes}
use Rattle.pm_expire.specs.declared.phase.Phase.TheVariants as phases
use Rattle.pm_expire.proofs.after.with_found.Goals as goal

pub returns-then-found-clause-goes : goal.returns-then-found-clause-goes
returns-then-found-clause-goes c =
    let x = c.into_found-found.result in
    let order = c.into_found-found.ensures.in_order in
    let goes : x.first < x.end = omega arith in
    some_goes x c.into_found-found.ensures.found
    (record { declared = order.declared; some = order.some goes; first = goes; last = order.last }) (omega arith)
    (ap (λ m. phases.Announce m) c.announcer_of.ensures)

pub returns-else-found-clause-goes : goal.returns-else-found-clause-goes
returns-else-found-clause-goes c =
    let low = c.into_found-found.ensures.in_order.first in
    none_goes c.into_found-found.result c.into_found-found.ensures.found (omega (arith, low)) c.into_found-found.ensures.in_order.last refl
