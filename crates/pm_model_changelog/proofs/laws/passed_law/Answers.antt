use Rattle.pm_model_changelog.proofs.LogLemmas.{passed-group}
use Rattle.pm_model_changelog.proofs.laws.passed_law.Goals as goal

pub returns : goal.returns
returns c = λ s g entries n. passed-group s g entries n
