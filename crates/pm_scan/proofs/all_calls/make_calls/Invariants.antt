use Rattle.std.proofs.Common.{◌<◌}
use Rattle.pm_machine.specs.Trace.{HasTrace}
use Rattle.pm_store.specs.Store.{StoreView, IsLater}
use Rattle.pm_scan.specs.Asked.{AskedRows}
use Rattle.pm_read_schema.specs.Beside.{Learns}
use Rattle.pm_scan.specs.Meaning.{Knows}
use Rattle.pm_scan.specs.Scanner.{calls_left, IsReady}
use Rattle.pm_scan.specs.Trace.{Did}
use Rattle.pm_scan.proofs.all_calls.make_calls.Given as goal

abbrev pub invariant-loop-alloc : goal.invariant-loop-alloc
invariant-loop-alloc g l =
    let seen = g.F.FileStore.seen in
    record {
      trace : (a : AskedRows) (first : StoreView) → HasTrace (Did a l.fn.scanner) first (seen l.fn.store) → HasTrace (Did a l.scanner) first (seen l.store);
      learned : Learns (Knows l.fn.scanner) (Knows l.scanner) (seen l.fn.store) (seen l.store);
      left : ¬ IsReady l.scanner → 0 < calls_left l.scanner;
      later : IsLater (seen l.fn.store) (seen l.store);
    }

abbrev pub decreases-loop-alloc : goal.decreases-loop-alloc
decreases-loop-alloc g l = calls_left l.scanner
