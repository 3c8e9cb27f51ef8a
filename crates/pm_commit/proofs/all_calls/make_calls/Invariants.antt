use Rattle.std.proofs.Common.{◌<◌}
use Rattle.pm_machine.specs.Trace.{HasTrace}
use Rattle.pm_schema.specs.declared.schema.TableSchema.{TableSchema}
use Rattle.pm_store.specs.Store.{StoreView, IsLater}
use Rattle.pm_commit.specs.Committer.{calls_left}
use Rattle.pm_commit.specs.Own.{OwnView}
use Rattle.pm_commit.specs.Trace.{Did}
use Rattle.pm_commit.proofs.AllCallsLemmas.{HasFollowed}
use Rattle.pm_commit.proofs.all_calls.make_calls.Given as goal

abbrev pub invariant-loop-id : goal.invariant-loop-id
invariant-loop-id g l =
    let seen = g.F.FileStore.seen in
    record {
      trace : (s : TableSchema) (own : OwnView) (first : StoreView) → HasTrace (Did s own l.fn.committer) first (seen l.fn.store)
          → HasTrace (Did s own l.committer) first (seen l.store);
      alone : HasFollowed l.fn.committer l.committer (seen l.fn.store) (seen l.store);
      left : 0 < calls_left l.committer;
      later : IsLater (seen l.fn.store) (seen l.store);
    }

abbrev pub decreases-loop-id : goal.decreases-loop-id
decreases-loop-id g l = calls_left l.committer
