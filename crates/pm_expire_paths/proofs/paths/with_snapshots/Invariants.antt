use Rattle.std.proofs.Common.{◌≡◌, ◌++◌, ◌-◌}
use Rattle.pm_model_expiry.specs.Removals.{snapshot_paths}
use Rattle.pm_expire_paths.proofs.paths.with_snapshots.Given as goal

abbrev pub invariant-loop-id : goal.invariant-loop-id
invariant-loop-id l =
    l.all.items ++ snapshot_paths l.id (l.fn.expiring.end - l.id)
    ≡ l.fn.paths.items ++ snapshot_paths l.fn.expiring.first (l.fn.expiring.end - l.fn.expiring.first)
