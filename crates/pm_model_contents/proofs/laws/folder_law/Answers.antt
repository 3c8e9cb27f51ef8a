use Rattle.pm_model_contents.proofs.FolderLemmas.{entries-fit, entry-fits}
use Rattle.pm_model_contents.proofs.laws.folder_law.Goals as goal

pub returns-clause-entry : goal.returns-clause-entry
returns-clause-entry c = entry-fits

pub returns-clause-entries : goal.returns-clause-entries
returns-clause-entries c = entries-fit
