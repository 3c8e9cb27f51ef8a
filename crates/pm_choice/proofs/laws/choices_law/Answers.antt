use Rattle.pm_choice.proofs.ChoiceLemmas.{each, rising}
use Rattle.pm_choice.proofs.laws.choices_law.Goals as goal

pub returns : goal.returns
returns c = record { rising = rising; each = each c.pick_law.ensures }
