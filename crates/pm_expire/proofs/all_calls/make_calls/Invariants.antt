use Rattle.std.proofs.Common.{◌<◌}
use Rattle.pm_machine.specs.Trace.{HasTrace}
use Rattle.pm_store.specs.Store.{StoreView, IsLater}
use Rattle.pm_read_expiry.specs.declared.asking.Asking.{Asking}
use Rattle.pm_expire.specs.Beside.{HasCome}
use Rattle.pm_expire.specs.Expirer.{calls_left}
use Rattle.pm_expire.proofs.BesideLemmas.{HasBrought, HasFollowed}
use Rattle.pm_expire.proofs.all_calls.make_calls.Given as goal

abbrev pub invariant-loop-first : goal.invariant-loop-first
invariant-loop-first g l =
    let seen = g.F.FileStore.seen in
    record {
      trace : (a : Asking) (first : StoreView) → HasTrace (HasCome a l.fn.expirer) first (seen l.fn.store) → HasTrace (HasCome a l.expirer) first (seen l.store);
      brought : HasBrought l.fn.expirer l.expirer (seen l.fn.store) (seen l.store);
      alone : HasFollowed l.fn.expirer l.expirer (seen l.fn.store) (seen l.store);
      left : 0 < calls_left l.expirer;
      later : IsLater (seen l.fn.store) (seen l.store);
    }

abbrev pub decreases-loop-first : goal.decreases-loop-first
decreases-loop-first g l = calls_left l.expirer
