use Rattle.std.proofs.Common.{arith}
use Rattle.pm_expire_paths.proofs.PathLemmas.{one_more}
use Rattle.pm_expire_paths.proofs.paths.with_snapshots.Goals as goal

pub loop-id-preserved : goal.loop-id-preserved
loop-id-preserved c =
    one_more c.loop-id.all.items c.push.new.self.items c.args.paths.items c.in_ok-snapshot_path.field-0 c.loop-id.id c.args.expiring.first
    c.args.expiring.end (omega arith) c.in_ok-snapshot_path.ensures c.in_ok-push.ensures.items c.loop-id.invariant
