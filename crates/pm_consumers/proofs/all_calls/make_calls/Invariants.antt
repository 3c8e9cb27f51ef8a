use Rattle.std.proofs.Common.{◌<◌}
use Rattle.pm_machine.specs.Trace.{HasTrace}
use Rattle.pm_store.specs.Store.{IsLater}
use Rattle.pm_read_schema.specs.Beside.{AnyPast, Learns}
use Rattle.pm_consumers.specs.Lister.{calls_left, IsDone}
use Rattle.pm_consumers.specs.Trace.{Did}
use Rattle.pm_consumers.proofs.all_calls.make_calls.Given as goal

abbrev pub invariant-loop-alloc : goal.invariant-loop-alloc
invariant-loop-alloc g l =
    let seen = g.F.FileStore.seen in
    record {
      trace : HasTrace (Did l.lister) (seen l.fn.store) (seen l.store);
      learned : Learns AnyPast AnyPast (seen l.fn.store) (seen l.store);
      left : ¬ IsDone l.lister → 0 < calls_left l.lister;
      later : IsLater (seen l.fn.store) (seen l.store);
    }

abbrev pub decreases-loop-alloc : goal.decreases-loop-alloc
decreases-loop-alloc g l = calls_left l.lister
