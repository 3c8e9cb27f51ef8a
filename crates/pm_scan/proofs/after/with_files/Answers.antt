use Rattle.std.proofs.Common.{rules}
use Rattle.pm_scan.proofs.FilesLemmas.{held, printed}
use Rattle.pm_scan.proofs.after.with_files.Goals as goal

pub returns-then-not-are_files_read-clause-goes : goal.returns-then-not-are_files_read-clause-goes
returns-then-not-are_files_read-clause-goes c = held c.args.rows c.args.id c.args.files (search rules)

pub returns-in-Ok-clause-goes : goal.returns-in-Ok-clause-goes
returns-in-Ok-clause-goes c = printed c.args.rows c.args.id c.args.files c.into_collected.result c.in-Ok.text c.into_collected.ensures c.in-Ok.ensures.prints
