use Rattle.pm_made.proofs.NumberLemmas.{files-folders, files-many, no-files}
use Rattle.pm_made.proofs.numbers.number_files.Goals as goal

pub returns-in-Ok-clause-folders : goal.returns-in-Ok-clause-folders
returns-in-Ok-clause-folders c =
    files-folders c.args.schema.now c.in_ok-next.next c.args.names.now c.args.batch.now c.in-Ok.files.items c.in-Ok.ensures.files c.requires.folders

pub returns-in-Ok-clause-many : goal.returns-in-Ok-clause-many
returns-in-Ok-clause-many c = files-many c.args.schema.now c.in_ok-next.next c.args.names.now c.args.batch.now c.in-Ok.files.items c.in-Ok.ensures.files

pub returns-clause-err : goal.returns-clause-err
returns-clause-err c = no-files c.args.live.now c.in_ok-next.next c.args.batch.now c.in-Err.refusal c.in_ok-next.ensures c.in-Err.ensures.refused
