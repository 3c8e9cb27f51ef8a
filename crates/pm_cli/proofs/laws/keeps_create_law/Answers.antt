use Rattle.pm_cli.proofs.Create.{keeps}
use Rattle.pm_cli.proofs.laws.keeps_create_law.Goals as goal

pub returns : goal.returns
returns c = keeps c.kept_law.ensures c.kept_law-2.ensures c.one_contents_law.ensures c.draft_law.ensures
