use Rattle.std.proofs.Common.{[], codes}
use Rattle.pm_words.proofs.declared.consumers_words.Goals as goal

pub returns : goal.returns
returns c = c.with_value.ensures (codes "consumers") [] c.without_options-command.ensures
