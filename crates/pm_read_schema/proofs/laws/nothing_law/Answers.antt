use Rattle.pm_read_schema.proofs.Facts.{kept_nothing}
use Rattle.pm_read_schema.proofs.laws.nothing_law.Goals as goal

pub returns : goal.returns
returns c = kept_nothing
