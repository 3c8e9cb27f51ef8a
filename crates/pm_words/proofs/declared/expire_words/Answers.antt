use Rattle.std.proofs.Common.{◌∷◌, [], codes}
use Rattle.pm_words.specs.Clap.{value}
use Rattle.pm_words.proofs.declared.expire_words.Goals as goal

pub returns : goal.returns
returns c =
    c.with_value-3.ensures (codes "expire") (value (codes "min") ∷ value (codes "max") ∷ [])
    (c.in_ok-command-2.ensures (codes "expire") (value (codes "min") ∷ []) (c.in_ok-command.ensures (codes "expire") [] c.without_options-command.ensures))
