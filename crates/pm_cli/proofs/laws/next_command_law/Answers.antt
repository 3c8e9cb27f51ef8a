use Rattle.std.proofs.Common.{◌⊎◌}
use Rattle.pm_model_folder.specs.Folder.{Folder}
use Rattle.pm_move_consumer.specs.DropperAllCalls.{ItGoes, ItRests}
use Rattle.pm_commit.specs.AllCalls.{MayStart}
use Rattle.pm_command_compact.specs.Compact as compact
use Rattle.pm_command_consumers.specs.Drop.{StandsWithout}
use Rattle.pm_command_expire.specs.Expire as expire
use Rattle.pm_command_create.specs.Create.{StandsForEither}
use Rattle.pm_command.specs.Outside.{HaveSame}
use Rattle.pm_command_write.specs.Write.{IsImage, MayStartAfter}
use Rattle.pm_command.proofs.Uncalled.{next_stands}
use Rattle.pm_command_write.proofs.WriteLaws.{same_starts}
use Rattle.pm_cli.proofs.laws.next_command_law.Goals as goal

pub returns-clause-create : goal.returns-clause-create
returns-clause-create c start bytes h = next_stands (StandsForEither start bytes h)

pub returns-clause-write : goal.returns-clause-write
returns-clause-write c start w lines h = next_stands (IsImage start w lines h)

pub returns-clause-compact : goal.returns-clause-compact
returns-clause-compact c start full h first = next_stands (compact.IsImage start full h first)

pub returns-clause-next_to_compact : goal.returns-clause-next_to_compact
returns-clause-next_to_compact c other start full h first = next_stands (compact.MayStartAfter other start full h first)

pub returns-clause-rests : goal.returns-clause-rests
returns-clause-rests c h f = next_stands (λ g. Folder g h × HaveSame f g)

pub returns-clause-drops : goal.returns-clause-drops
returns-clause-drops c name h names f = next_stands (λ g. StandsWithout name h names f g × (ItRests name f g ⊎ ItGoes name f g))

pub returns-clause-expires : goal.returns-clause-expires
returns-clause-expires c start asked h f = next_stands (λ g. Folder g h × expire.IsImage start asked h f g)

pub returns-clause-next_to_expire : goal.returns-clause-next_to_expire
returns-clause-next_to_expire c other h = next_stands (MayStart other h)

pub returns-clause-next : goal.returns-clause-next
returns-clause-next c other start w lines h = next_stands (MayStartAfter other start w lines h)

pub returns-clause-same : goal.returns-clause-same
returns-clause-same c = same_starts c.same_law.ensures
