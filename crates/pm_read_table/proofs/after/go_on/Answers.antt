use Rattle.pm_read_table.proofs.AfterLemmas.{nothing_left, ready_on}
use Rattle.pm_read_table.proofs.after.go_on.Goals as goal

pub returns-in-Ok-clause-goes : goal.returns-in-Ok-clause-goes
returns-in-Ok-clause-goes c =
    ready_on c.args.sought c.args.snapshot c.args.done.items c.args.left.items c.args.live.entries c.args.kept.items c.in-Ok.view
    (nothing_left c.args.left.items c.pop_front.new.self.items c.in-None.ensures.items c.in-None.ensures.rest)
    c.in-Ok.ensures.view c.in-Ok.ensures.sought
