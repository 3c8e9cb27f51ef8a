use Rattle.std.proofs.Common.{◌<◌, refl, arith}
use Rattle.pm_expire.specs.Expirer.{none_goes_then, views_first}
use Rattle.pm_expire.proofs.after.with_announced.Goals as goal

pub returns-in-Ok-clause-goes : goal.returns-in-Ok-clause-goes
returns-in-Ok-clause-goes c =
    let a = c.into_announced-announced.result in
    let less : a.found.first < a.end = omega arith in
    views_first a c.new.result c.into_announced-announced.ensures.announced c.into_announced-announced.ensures.in_order less
    (record { kept = c.new.ensures.kept; gone = c.new.ensures.gone }) c.in-Ok.ensures.is

pub returns-else-announced-clause-goes : goal.returns-else-announced-clause-goes
returns-else-announced-clause-goes c =
    let low = c.into_announced-announced.ensures.in_order.first in
    none_goes_then c.into_announced-announced.result c.into_announced-announced.ensures.announced (omega (arith, low)) refl
