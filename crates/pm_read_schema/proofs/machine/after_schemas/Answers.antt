use Rattle.std.proofs.Common.{refl, subst}
use Rattle.pm_read_schema.specs.Names.{HasNoSchema}
use Rattle.pm_read_schema.proofs.machine.after_schemas.Goals as goal

pub returns-clause-refuses : goal.returns-clause-refuses
returns-clause-refuses c = (refl, subst HasNoSchema c.as_slice.ensures.value c.in-None.ensures.other)
