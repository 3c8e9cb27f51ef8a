use Rattle.pm_store.proofs.NameLaws.{is_forward, bounded}
use Rattle.pm_store.proofs.names.bounds_of.Goals as goal

pub returns-clause-forward : goal.returns-clause-forward
returns-clause-forward c = rw (c.in_ok-first.ensures, c.in_ok-end.ensures) (is_forward c.args.folder.now)

pub returns-clause-all : goal.returns-clause-all
returns-clause-all c = bounded c.args.folder.now c.in_ok-first.first c.in_ok-end.end c.if-is_empty.ensures c.in_ok-first.ensures c.in_ok-end.ensures
