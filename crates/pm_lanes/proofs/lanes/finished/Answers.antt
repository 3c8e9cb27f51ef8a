use Rattle.pm_lanes.proofs.Eight.{finished_lanes}
use Rattle.pm_lanes.proofs.lanes.finished.Goals as goal

pub returns : goal.returns
returns c = finished_lanes c.args.hash c.fits-hash.0
