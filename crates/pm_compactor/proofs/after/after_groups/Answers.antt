use Rattle.std.proofs.Common.{rules}
use Rattle.pm_compactor.proofs.PartLemmasAfter.{still-files, tell-fails, tells-on}
use Rattle.pm_compactor.proofs.after.after_groups.Goals as goal

pub returns-then-are_files_read-clause-goes : goal.returns-then-are_files_read-clause-goes
returns-then-are_files_read-clause-goes c = tells-on c.args.planned c.args.files c.tell.result (search rules) c.tell.ensures.goes

pub returns-then-are_files_read-clause-refuses : goal.returns-then-are_files_read-clause-refuses
returns-then-are_files_read-clause-refuses c = tell-fails _ c.args.files c.tell.result (search rules) c.tell.ensures.refuses

pub returns-else-are_files_read-clause-goes : goal.returns-else-are_files_read-clause-goes
returns-else-are_files_read-clause-goes c = still-files c.args.planned c.args.files (search rules)
