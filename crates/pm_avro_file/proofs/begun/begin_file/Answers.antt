use Rattle.pm_avro_schema.specs.View as types
use Rattle.pm_avro_file.proofs.Writes.{begun}
use Rattle.pm_avro_file.proofs.begun.begin_file.Goals as goal

pub returns-clause-begun : goal.returns-clause-begun
returns-clause-begun c = begun (types.view c.args.kind.now) c.args.marker.now c.in_ok-out.out.items c.in_ok-out.ensures.bytes c.in_ok-out.ensures.header
