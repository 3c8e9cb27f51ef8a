use Rattle.std.proofs.Common.{rules}
use Rattle.pm_compactor.proofs.PartLemmasAfter.{still-reads}
use Rattle.pm_compactor.proofs.after.with_files.Goals as goal

pub returns-else-has_work-clause-goes : goal.returns-else-has_work-clause-goes
returns-else-has_work-clause-goes c = still-reads c.args.planned c.args.files c.requires.can_make.room (search rules)
