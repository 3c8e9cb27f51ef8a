use Rattle.pm_compactor.proofs.PartLemmasAfter.{begins-on, refuses-on}
use Rattle.pm_compactor.proofs.after.begin.Goals as goal

pub returns-in-Ok-clause-begins : goal.returns-in-Ok-clause-begins
returns-in-Ok-clause-begins c =
    begins-on c.args.planned c.into_commit-author.result c.in-Ok.committer c.create_next.result c.into_commit-author.ensures c.in-Ok.ensures.begins c.create_next.ensures

pub returns-in-Err-clause-refuses : goal.returns-in-Err-clause-refuses
returns-in-Err-clause-refuses c =
    refuses-on c.args.planned c.into_commit-author.result c.in-Err.refusal c.into_commit-author.ensures c.in-Err.ensures.refuses
