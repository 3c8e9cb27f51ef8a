use Rattle.pm_lanes.proofs.Eight.{mixed_lanes}
use Rattle.pm_lanes.proofs.lanes.mixed.Goals as goal

pub returns : goal.returns
returns c = rw c.scrambled.ensures (mixed_lanes c.args.hash c.args.word c.fits-hash.0 c.fits-word.0)
