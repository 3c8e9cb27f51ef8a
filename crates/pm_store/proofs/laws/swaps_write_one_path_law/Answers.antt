use Rattle.pm_store.proofs.FileLaws.{file_at-swapped, files_after-differs, file_at-swap_other}
use Rattle.pm_store.proofs.laws.swaps_write_one_path_law.Goals as goal

pub returns-clause-written : goal.returns-clause-written
returns-clause-written c = file_at-swapped

pub returns-clause-differs : goal.returns-clause-differs
returns-clause-differs c = files_after-differs

pub returns-clause-others : goal.returns-clause-others
returns-clause-others c = file_at-swap_other
