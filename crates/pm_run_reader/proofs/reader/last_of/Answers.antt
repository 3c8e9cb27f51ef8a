use Rattle.std.proofs.Common.{Some, ap, ◌∙◌}
use Rattle.pm_run_form.proofs.RowLemmas.{last_of_slice}
use Rattle.pm_run_reader.proofs.reader.last_of.Goals as goal

pub returns-in_ok-copy-in-Some : goal.returns-in_ok-copy-in-Some
returns-in_ok-copy-in-Some c = ap Some c.in_ok-copy-in-Some.ensures ∙ last_of_slice c.args.before c.args.rows.now c.in-Some.row.now c.in-Some.ensures.value
