use Rattle.pm_paths.proofs.IdLemmas.{is_latest}
use Rattle.pm_paths.proofs.ids.latest_of.Goals as goal

pub returns : goal.returns
returns c = rw c.latest_from.ensures (is_latest c.args.names.now)
