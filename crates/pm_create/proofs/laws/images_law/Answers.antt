use Rattle.pm_create.proofs.Facts.{images}
use Rattle.pm_create.proofs.laws.images_law.Goals as goal

pub returns : goal.returns
returns c = images (λ path text s reads. c.declared_law.ensures.file path text s ((c.schema_law.ensures.exact path text s).0 reads)) c.past_law.ensures
