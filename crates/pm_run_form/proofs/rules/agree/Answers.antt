use Rattle.pm_run_form.proofs.RowLemmas.{agree-many}
use Rattle.pm_run_form.proofs.rules.agree.Goals as goal

pub returns-then-places-values : goal.returns-then-places-values
returns-then-places-values c = agree-many c.args.places.now c.args.row.now c.args.values.now c.if-places-values.true
