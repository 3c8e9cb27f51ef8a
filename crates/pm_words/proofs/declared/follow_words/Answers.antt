use Rattle.std.proofs.Common.{◌∷◌, [], codes}
use Rattle.pm_words.specs.Clap.{value}
use Rattle.pm_words.proofs.declared.follow_words.Goals as goal

pub returns : goal.returns
returns c =
    c.with_flag.ensures (codes "follow") (value (codes "from") ∷ value (codes "consumer") ∷ [])
    (c.in_ok-command-2.ensures (codes "follow") (value (codes "from") ∷ []) (c.in_ok-command.ensures (codes "follow") [] c.without_options-command.ensures))
