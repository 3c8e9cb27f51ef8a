use Rattle.std.proofs.Common.{◌≡◌, Some, None, not, ap, sym, ◌∙◌}
use Rattle.std.specs.Ordering.{is_lt}
use Rattle.pm_run.specs.Order.{last_key}
use Rattle.pm_run_form.proofs.RowLemmas.{last_of_slice}
use Rattle.pm_lookup.proofs.open_file.reaches.Goals as goal

pub returns-in-Some : goal.returns-in-Some
returns-in-Some c =
    let last : Some c.in-Some.row.now.key ≡ last_key None c.args.rows.now = last_of_slice None c.args.rows.now c.in-Some.row.now c.in-Some.ensures.value in
    rw (sym last) (ap not (c.is_lt.ensures ∙ ap is_lt c.cmp.ensures))
