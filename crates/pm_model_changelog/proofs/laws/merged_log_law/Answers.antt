use Rattle.pm_model_changelog.proofs.ChangeLemmas.{log-same}
use Rattle.pm_model_changelog.proofs.laws.merged_log_law.Goals as goal

pub returns : goal.returns
returns c = λ s older newer older_merged newer_merged rows more covers covers_merged lacks_none lacks_none_merged.
    log-same c.covers_law.ensures.worth c.covers_law.ensures.hidden s older newer older_merged newer_merged rows more
    covers covers_merged lacks_none lacks_none_merged
