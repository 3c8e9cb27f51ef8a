use Rattle.pm_model_contents.proofs.ContentLemmas.{same-contents}
use Rattle.pm_model_contents.proofs.laws.one_contents_law.Goals as goal

pub returns : goal.returns
returns c = λ f s x. same-contents c.one_reading_law.ensures c.one_reading_law-2.ensures f s x
