use Rattle.pm_lanes.proofs.Eight.{scrambled_lanes}
use Rattle.pm_lanes.proofs.lanes.scrambled.Goals as goal

pub returns : goal.returns
returns c = scrambled_lanes c.args.word c.fits-word.0
