use Rattle.pm_group_rows.proofs.FolderLemmas.{below, fits}
use Rattle.pm_group_rows.proofs.laws.groups_law.Goals as goal

pub returns : goal.returns
returns c = record {
  folder = fits;
  bucket = below;
}
