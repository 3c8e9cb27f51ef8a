use Rattle.pm_read_expiry.proofs.ListLemmas.{listed_of_list}
use Rattle.pm_read_expiry.proofs.after.after_snapshots.Goals as goal

pub with_snapshots-requires-clause-lister : goal.with_snapshots-requires-clause-lister
with_snapshots-requires-clause-lister c =
    listed_of_list c.args.asking c.args.lister c.take.new.self c.args.answer c.requires.lister c.in-Ok.ensures.goes
