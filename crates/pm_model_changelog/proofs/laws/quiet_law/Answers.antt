use Rattle.pm_model_changelog.proofs.ChangeLemmas.{change-none}
use Rattle.pm_model_changelog.proofs.laws.quiet_law.Goals as goal

pub returns : goal.returns
returns c = λ s g entries e wholly holds fit compares nothing.
    change-none c.told_keys_law.ensures s g entries e wholly holds fit compares nothing
