use Rattle.pm_consumers.proofs.NameLemmas.{names_are}
use Rattle.pm_consumers.proofs.names.names_of.Goals as goal

pub returns : goal.returns
returns c = names_are c.args.files.now c.in_ok-names.names.items c.requires c.in_ok-names.ensures
