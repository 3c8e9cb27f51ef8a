use Rattle.pm_value_text.proofs.DateLemmas.{day_in-date_text, day_in-named, text-day_in}
use Rattle.pm_value_text.proofs.laws.dates_law.Goals as goal

pub returns-clause-named : goal.returns-clause-named
returns-clause-named c = day_in-named

pub returns-clause-again : goal.returns-clause-again
returns-clause-again c = day_in-date_text

pub returns-clause-one_text : goal.returns-clause-one_text
returns-clause-one_text c = text-day_in
