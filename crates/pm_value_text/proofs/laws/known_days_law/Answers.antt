use Rattle.std.proofs.Common.{refl}
use Rattle.pm_value_text.specs.Date.{date_text}
use Rattle.pm_value_text.proofs.laws.known_days_law.Goals as goal

pub returns-clause-first : goal.returns-clause-first
unfolding date_text
returns-clause-first c = refl

pub returns-clause-before : goal.returns-clause-before
unfolding date_text
returns-clause-before c = refl

pub returns-clause-origin : goal.returns-clause-origin
unfolding date_text
returns-clause-origin c = refl

pub returns-clause-after : goal.returns-clause-after
unfolding date_text
returns-clause-after c = refl

pub returns-clause-last : goal.returns-clause-last
unfolding date_text
returns-clause-last c = refl
