use Rattle.pm_folder_store.proofs.PathLemmas.{cut_from_rsplit}
use Rattle.pm_folder_store.proofs.paths.cut.Goals as goal

pub returns : goal.returns
returns c = cut_from_rsplit c.args.path.now c.rsplit_once.result c.rsplit_once.ensures.cases
