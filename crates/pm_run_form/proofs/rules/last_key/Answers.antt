use Rattle.pm_run_form.proofs.RowLemmas.{last_of_slice}
use Rattle.pm_run_form.proofs.rules.last_key.Goals as goal

pub returns-in-Some : goal.returns-in-Some
returns-in-Some c = last_of_slice c.args.before.now c.args.rows.now c.in-Some.row.now c.in-Some.ensures.value
