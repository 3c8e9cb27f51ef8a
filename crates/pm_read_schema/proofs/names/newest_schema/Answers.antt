use Rattle.pm_read_schema.proofs.NameLemmas.{newest_is}
use Rattle.pm_read_schema.proofs.names.newest_schema.Goals as goal

pub returns-clause-found : goal.returns-clause-found
returns-clause-found c = rw c.newest_from.ensures ((newest_is c.args.names.now).0)

pub returns-clause-other : goal.returns-clause-other
returns-clause-other c = rw c.newest_from.ensures ((newest_is c.args.names.now).1)
