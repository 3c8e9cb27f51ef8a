use Rattle.std.proofs.Common.{refl}
use Rattle.pm_group_files.specs.Collected.{nothing_of}
use Rattle.pm_group_files.specs.Jobs.{all_wanted}
use Rattle.pm_group_files.proofs.Facts.{next_known}
use Rattle.pm_group_files.proofs.ReadLemmas.{first-taken}
use Rattle.pm_group_files.proofs.laws.begins_law.Goals as goal

pub returns : goal.returns
returns c = λ a f p chosen none. next_known a a.id (nothing_of a.schema) (all_wanted a.schema a.groups) f p refl (first-taken p a chosen none)
