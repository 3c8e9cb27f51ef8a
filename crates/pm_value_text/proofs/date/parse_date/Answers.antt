use Rattle.std.proofs.Common.{rules, ◌≡◌}
use Rattle.pm_value_text.specs.Date.{day_in}
use Rattle.pm_value_text.proofs.DateLemmas.{named_as}
use Rattle.pm_value_text.proofs.date.parse_date.Goals as goal

pub returns-clause-named : goal.returns-clause-named
unfolding day_in
returns-clause-named c =
    let value : c.number.result ≡ day_in c.args.text.now = search rules in
    named_as c.args.text.now c.number.result value
