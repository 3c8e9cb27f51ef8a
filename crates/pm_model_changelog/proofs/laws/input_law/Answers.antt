use Rattle.pm_model_changelog.proofs.ChangeLemmas.{change-given}
use Rattle.pm_model_changelog.proofs.laws.input_law.Goals as goal

pub returns : goal.returns
returns c = λ s g entries e holds input. change-given s g entries e holds input
