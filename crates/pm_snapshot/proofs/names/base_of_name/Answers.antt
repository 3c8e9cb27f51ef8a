use Rattle.pm_snapshot.proofs.PartLemmas.{none_at, based_other}
use Rattle.pm_snapshot.proofs.names.base_of_name.Goals as goal

pub returns-clause-other : goal.returns-clause-other
returns-clause-other c =
    based_other c.base_between-4.result c.args.name.now
    (none_at c.base_between.result _ c.in_default.is c.base_between.ensures.other)
    (none_at c.base_between-2.result _ c.in_default-base_between.is c.base_between-2.ensures.other)
    (none_at c.base_between-3.result _ c.in_default-base_between-2.is c.base_between-3.ensures.other)
    c.base_between-4.ensures.other
