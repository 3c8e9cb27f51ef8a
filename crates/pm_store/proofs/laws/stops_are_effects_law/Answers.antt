use Rattle.std.proofs.Common.{sym, subst}
use Rattle.pm_store.specs.Images.{MayLeave, HasEffect}
use Rattle.pm_store.proofs.FileLaws.{MayLeave-after_effect, effect_left}
use Rattle.pm_store.proofs.laws.stops_are_effects_law.Goals as goal

pub returns : goal.returns
returns c call files f = (effect_left call files f, λ (has : HasEffect call files f). subst (MayLeave call files) (sym has.1) (MayLeave-after_effect call has.0 files))
