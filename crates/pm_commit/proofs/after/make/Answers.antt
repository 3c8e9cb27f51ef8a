use Rattle.pm_commit.proofs.AfterLemmas.{makes-put}
use Rattle.pm_commit.proofs.after.make.Goals as goal

pub returns-in-Ok : goal.returns-in-Ok
returns-in-Ok c =
    makes-put c.args.own c.make-made.new.self c.args.found c.in-Ok.made c.put.result c.in-Ok.ensures.made c.in-Ok.ensures.allowed c.in-Ok.ensures.named
    c.put.ensures.put c.put.ensures.memory
