use Rattle.std.proofs.Common.{arith}
use Rattle.pm_write.proofs.LogLemmas.{logs-all}
use Rattle.pm_write.proofs.files.write_logs.Goals as goal

pub returns-clause-files : goal.returns-clause-files
returns-clause-files c =
    logs-all c.args.schema.now c.args.names.now c.loop-held.names c.args.groups.now c.loop-held.held-index c.loop-held.files.items (omega arith) c.loop-held.invariant.files
