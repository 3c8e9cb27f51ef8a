use Rattle.std.proofs.Common.{◌∷◌, [], codes}
use Rattle.pm_words.specs.Clap.{value}
use Rattle.pm_words.proofs.declared.scan_words.Goals as goal

pub returns : goal.returns
returns c = c.with_value.ensures (codes "scan") [] c.without_options-command.ensures
