use Rattle.pm_model_contents.proofs.ContentLemmas.{named-contents}
use Rattle.pm_model_contents.proofs.laws.same_law.Goals as goal

pub returns : goal.returns
returns c = λ f g s x contents same. named-contents f g s x contents same
