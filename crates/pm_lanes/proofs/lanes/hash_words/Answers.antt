use Rattle.std.proofs.Common.{◌∙◌}
use Rattle.pm_lanes.proofs.Eight.{hash_lanes}
use Rattle.pm_lanes.proofs.lanes.hash_words.Goals as goal

pub returns : goal.returns
returns c =
    c.finished.ensures
    ∙ rw (c.mixed-hash.ensures, c.mixed.ensures) (hash_lanes c.args.low c.args.high c.fits-low.0 c.fits-high.0)
