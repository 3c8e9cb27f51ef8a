use Rattle.pm_store.proofs.ImageLaws.{image-effect, effect-image}
use Rattle.pm_store.proofs.laws.images_are_effects_law.Goals as goal

pub returns : goal.returns
returns c ops i f = (image-effect ops i f, effect-image ops i f)
