use Rattle.pm_folder_store.proofs.NameLemmas.{readable_of, unreadable_of}
use Rattle.pm_folder_store.proofs.names.readable.Goals as goal

pub returns-in-Ok : goal.returns-in-Ok
returns-in-Ok c = readable_of c.args.name.now c.in-Ok.name.now c.in-Ok.ensures.cases.0 c.in-Ok.ensures.cases.1

pub returns-in-Err : goal.returns-in-Err
returns-in-Err c = unreadable_of c.args.name.now c.in-Err.ensures.cases.0
