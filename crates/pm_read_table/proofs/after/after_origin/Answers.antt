use Rattle.pm_read_table.proofs.AfterLemmas.{origin_goes}
use Rattle.pm_read_table.proofs.after.after_origin.Goals as goal

pub returns-in-Some-clause-goes : goal.returns-in-Some-clause-goes
returns-in-Some-clause-goes c =
    origin_goes c.args.sought c.args.found _ c.origin_view.result c.in-Some.is c.origin_view.ensures.view c.origin_view.ensures.sought
