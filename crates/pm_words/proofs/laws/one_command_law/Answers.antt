use Rattle.pm_words.proofs.CommandLemmas.{one_command}
use Rattle.pm_words.proofs.laws.one_command_law.Goals as goal

pub returns : goal.returns
returns c = one_command
