use Rattle.std.proofs.Common.{rules}
use Rattle.pm_read_table.proofs.AfterLemmas.{base_goes}
use Rattle.pm_read_table.proofs.after.after_base.Goals as goal

pub returns-in-Ok-read_list-clause-goes : goal.returns-in-Ok-read_list-clause-goes
returns-in-Ok-read_list-clause-goes c =
    base_goes c.args.sought c.args.snapshot c.args.found c.as_str.result.now c.in-Some.bytes c.in-Ok-read_list.base (search rules) (search rules)
    c.in-Ok-read_list.ensures
