use Rattle.std.proofs.Common.{◌∷◌, [], codes}
use Rattle.pm_words.specs.Clap.{value}
use Rattle.pm_words.proofs.declared.write_words.Goals as goal

pub returns : goal.returns
returns c = c.with_value-2.ensures (codes "write") (value (codes "user") ∷ []) (c.in_ok-command.ensures (codes "write") [] c.without_options-command.ensures)
