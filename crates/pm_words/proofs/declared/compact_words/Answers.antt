use Rattle.std.proofs.Common.{◌∷◌, [], codes}
use Rattle.pm_words.specs.Clap.{value}
use Rattle.pm_words.proofs.declared.compact_words.Goals as goal

pub returns : goal.returns
returns c = c.with_flag.ensures (codes "compact") [] c.without_options-command.ensures
