use Rattle.pm_model_following.proofs.FollowingLemmas.{is_passed_next}
use Rattle.pm_model_following.proofs.laws.passed_law.Goals as goal

pub returns : goal.returns
returns c = is_passed_next
