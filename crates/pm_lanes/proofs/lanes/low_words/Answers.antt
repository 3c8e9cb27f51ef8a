use Rattle.pm_lanes.proofs.Eight.{low_fits, low_lanes}
use Rattle.std.proofs.Common.{◌∙◌}
use Rattle.std.proofs.lemmas.List.{map-id}
use Rattle.pm_lanes.proofs.lanes.low_words.Goals as goal

pub overflow_cast-result : goal.overflow_cast-result
overflow_cast-result c = low_fits c.args.bits c.fits-bits.0

pub returns : goal.returns
returns c = map-id _ ∙ low_lanes c.args.bits c.fits-bits.0
