use Rattle.pm_store.proofs.ChangeLaws.{Answers-Changed}
use Rattle.pm_store.proofs.laws.answers_tell_changes_law.Goals as goal

pub returns : goal.returns
returns c = Answers-Changed
