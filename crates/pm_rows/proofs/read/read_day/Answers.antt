use Rattle.std.proofs.Common.{arith, sym, ◌∙◌}
use Rattle.std.proofs.lemmas.Int.{ints}
use Rattle.pm_value_text.proofs.Lemmas.{text-day_in}
use Rattle.pm_rows.proofs.read.read_day.Goals as goal

pub returns-in-Some-parse_date-clause-fits : goal.returns-in-Some-parse_date-clause-fits
returns-in-Some-parse_date-clause-fits c =
    let range = (text-day_in c.in-Some.text.now c.in-Some-parse_date.day (sym c.parse_date.ensures.value ∙ c.in-Some-parse_date.is)).0 in
    (omega (arith, ints), omega (arith, ints))
