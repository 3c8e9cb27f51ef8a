use Rattle.pm_read_schema.proofs.NameLemmas.{any_is}
use Rattle.pm_read_schema.proofs.names.lists_snapshot.Goals as goal

pub returns : goal.returns
returns c = rw c.any_snapshot.ensures (any_is c.args.names.now)
