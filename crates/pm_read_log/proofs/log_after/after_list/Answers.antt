use Rattle.std.proofs.Common.{rules}
use Rattle.pm_read_log.proofs.LogAfterLemmas.{list_goes}
use Rattle.pm_read_log.proofs.log_after.after_list.Goals as goal

pub returns-in-Ok-read_list-clause-goes : goal.returns-in-Ok-read_list-clause-goes
returns-in-Ok-read_list-clause-goes c =
    list_goes c.args.asked c.args.snapshot c.args.list c.args.found c.as_str.result.now c.in-Some.bytes c.in-Ok-read_list.metas.items c.begin.result
    (search rules) (search rules) c.in-Ok-read_list.ensures c.begin.ensures.within c.begin.ensures.goes
