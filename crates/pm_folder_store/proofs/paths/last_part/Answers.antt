use Rattle.std.proofs.Common.{sym}
use Rattle.pm_folder_store.proofs.FolderLemmas.{last_from_cut, no_slash}
use Rattle.pm_folder_store.proofs.paths.last_part.Goals as goal

pub returns-in-Some : goal.returns-in-Some
returns-in-Some c =
    sym (last_from_cut c.args.path.now c.in-Some.field-0-0.now c.in-Some.name.now c.in-Some.ensures)

pub returns-in-None : goal.returns-in-None
returns-in-None c = sym (no_slash c.args.path.now c.args.path.now c.in-None.ensures)
