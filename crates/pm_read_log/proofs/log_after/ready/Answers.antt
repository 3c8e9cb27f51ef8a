use Rattle.std.proofs.Common.{refl}
use Rattle.pm_read_log.proofs.log_after.ready.Goals as goal

pub returns-clause-goes : goal.returns-clause-goes
returns-clause-goes c = (_, record { schema = c.into_schema.ensures; snapshot = refl; manifests = refl; entries = refl }, refl)
