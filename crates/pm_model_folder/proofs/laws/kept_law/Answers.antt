use Rattle.pm_model_folder.proofs.KindFacts.{kept}
use Rattle.pm_model_folder.proofs.laws.kept_law.Goals as goal

pub returns : goal.returns
returns c = kept c.one_contents_law.ensures c.kept_law.ensures c.same_law.ensures
