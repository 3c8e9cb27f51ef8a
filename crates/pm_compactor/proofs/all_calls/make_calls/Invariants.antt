use Rattle.std.proofs.Common.{◌<◌}
use Rattle.pm_machine.specs.Trace.{HasTrace}
use Rattle.pm_schema.specs.declared.schema.TableSchema.{TableSchema}
use Rattle.pm_store.specs.Store.{StoreView, IsLater}
use Rattle.pm_plan.specs.declared.planned.Asking.{Asking}
use Rattle.pm_compactor.specs.AllCalls.{asked_by}
use Rattle.pm_compactor.specs.Compactor.{calls_left}
use Rattle.pm_compactor.specs.Trace.{Did}
use Rattle.pm_compactor.proofs.AllCallsLemmas.{HasFollowed}
use Rattle.pm_compactor.proofs.all_calls.make_calls.Given as goal

abbrev pub invariant-loop-id : goal.invariant-loop-id
invariant-loop-id g l =
    let seen = g.F.FileStore.seen in
    record {
      trace : (s : TableSchema) (asking : Asking) (first : StoreView) → HasTrace (Did (asked_by s asking) l.fn.compactor) first (seen l.fn.store)
          → HasTrace (Did (asked_by s asking) l.compactor) first (seen l.store);
      alone : HasFollowed l.fn.compactor l.compactor (seen l.fn.store) (seen l.store);
      left : 0 < calls_left l.compactor;
      later : IsLater (seen l.fn.store) (seen l.store);
    }

abbrev pub decreases-loop-id : goal.decreases-loop-id
decreases-loop-id g l = calls_left l.compactor
