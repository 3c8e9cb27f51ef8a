use Rattle.std.proofs.Common.{arith}
use Rattle.std.proofs.lemmas.Grind.{common_steps}
use Rattle.pm_manifest.proofs.ShapeLemmas.{position_none}
use Rattle.pm_manifest_shape.proofs.shape.rest_types.Goals as goal

pub loop-name-preserved : goal.loop-name-preserved
loop-name-preserved c = grind (arith, common_steps, position_none)
