use Rattle.std.proofs.Common.{◌∷◌, [], codes}
use Rattle.pm_words.specs.Clap.{value}
use Rattle.pm_words.proofs.declared.generate_words.Goals as goal

pub returns : goal.returns
returns c =
    c.with_value-3.ensures (codes "generate") (value (codes "batches") ∷ value (codes "rows") ∷ [])
    (c.in_ok-command-2.ensures (codes "generate") (value (codes "batches") ∷ []) (c.in_ok-command.ensures (codes "generate") [] c.without_options-command.ensures))
