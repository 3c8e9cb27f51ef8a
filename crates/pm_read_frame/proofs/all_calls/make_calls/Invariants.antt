use Rattle.std.proofs.Common.{◌<◌}
use Rattle.pm_machine.specs.Trace.{HasTrace}
use Rattle.pm_store.specs.Store.{StoreView, IsLater}
use Rattle.pm_read_log.specs.Log.{LogAskedView}
use Rattle.pm_read_schema.specs.Beside.{Learns}
use Rattle.pm_read_frame.specs.Meaning.{Knows}
use Rattle.pm_read_frame.specs.Reader.{calls_left, IsReady}
use Rattle.pm_read_frame.specs.Trace.{Did}
use Rattle.pm_read_frame.proofs.all_calls.make_calls.Given as goal

abbrev pub invariant-loop-alloc : goal.invariant-loop-alloc
invariant-loop-alloc g l =
    let seen = g.F.FileStore.seen in
    record {
      trace : (a : LogAskedView) (first : StoreView) → HasTrace (Did a l.fn.reader) first (seen l.fn.store) → HasTrace (Did a l.reader) first (seen l.store);
      learned : Learns (Knows l.fn.reader) (Knows l.reader) (seen l.fn.store) (seen l.store);
      left : ¬ IsReady l.reader → 0 < calls_left l.reader;
      later : IsLater (seen l.fn.store) (seen l.store);
    }

abbrev pub decreases-loop-alloc : goal.decreases-loop-alloc
decreases-loop-alloc g l = calls_left l.reader
