use Rattle.std.proofs.Common.{rules}
use Rattle.pm_read_log.proofs.LogAfterLemmas.{opens_none}
use Rattle.pm_read_log.proofs.log_after.open.Goals as goal

pub returns-in-None-clause-goes : goal.returns-in-None-clause-goes
returns-in-None-clause-goes c =
    opens_none c.args.asked c.args.snapshot c.args.snapshot.changelog_list c.new.result.items c.new-in-None.result.items c.ready.result (search rules)
    c.new.ensures.items c.new-in-None.ensures.items c.ready.ensures.goes
