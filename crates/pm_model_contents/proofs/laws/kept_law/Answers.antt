use Rattle.pm_model_contents.proofs.ContentLemmas.{kept-contents}
use Rattle.pm_model_contents.proofs.laws.kept_law.Goals as goal

pub returns : goal.returns
returns c = λ f g s x contents kept. kept-contents f g s x contents kept
