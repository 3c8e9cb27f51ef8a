use Rattle.std.proofs.Common.{◌<◌}
use Rattle.pm_machine.specs.Trace.{HasTrace}
use Rattle.pm_store.specs.Store.{IsLater}
use Rattle.pm_read_schema.specs.Beside.{AnyPast, Learns}
use Rattle.pm_read_schema.specs.Meaning.{Knows}
use Rattle.pm_read_schema.specs.Reader.{calls_left, IsReady}
use Rattle.pm_read_schema.specs.Trace.{Did}
use Rattle.pm_read_schema.proofs.all_calls.make_calls.Given as goal

abbrev pub invariant-loop-alloc : goal.invariant-loop-alloc
invariant-loop-alloc g l =
    let seen = g.F.FileStore.seen in
    record {
      trace : HasTrace (Did l.reader) (seen l.fn.store) (seen l.store);
      left : ¬ IsReady l.reader → 0 < calls_left l.reader;
      learned : Learns AnyPast (Knows l.reader) (seen l.fn.store) (seen l.store);
      later : IsLater (seen l.fn.store) (seen l.store);
    }

abbrev pub decreases-loop-alloc : goal.decreases-loop-alloc
decreases-loop-alloc g l = calls_left l.reader
