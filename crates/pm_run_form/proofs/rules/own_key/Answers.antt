use Rattle.std.proofs.Common.{rules, ◌∙◌}
use Rattle.pm_run_form.proofs.RowLemmas.{whole_key}
use Rattle.pm_run_form.proofs.rules.own_key.Goals as goal

pub returns-then-form : goal.returns-then-form
returns-then-form c =
    c.new.ensures
    ∙ whole_key c.args.form.now.places c.args.form.now.primary c.args.row.now c.args.values.items (search rules) c.requires
