use Rattle.pm_model_contents.proofs.FileLemmas.{same-files}
use Rattle.pm_model_contents.proofs.laws.one_runs_law.Goals as goal

pub returns : goal.returns
returns c = λ live g runs others a b.
    c.runs_law.ensures a.files b.files runs others a.own.apart (same-files live g a.files b.files a.own b.own) a.made b.made
