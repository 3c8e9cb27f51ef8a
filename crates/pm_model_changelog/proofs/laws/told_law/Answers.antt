use Rattle.pm_model_changelog.proofs.LogLemmas.{told-same}
use Rattle.pm_model_changelog.proofs.laws.told_law.Goals as goal

pub returns : goal.returns
returns c = λ s g entries e wholly p key compares on in_group.
    told-same s g key in_group c.covers_law.ensures.worth c.covers_law.ensures.hidden c.merged_table_law.ensures entries e wholly p compares on
