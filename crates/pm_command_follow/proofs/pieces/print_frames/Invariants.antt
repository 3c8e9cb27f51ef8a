use Rattle.std.proofs.Common.{◌≡◌, ◌⊎◌, ◌≤◌, ◌+◌, ◌-◌, suc}
use Rattle.pm_io.specs.Sink.{SinkLater}
use Rattle.pm_store.specs.Store.{IsLater}
use Rattle.pm_command_follow.specs.Pieces.{HasLearned, HasPrinted}
use Rattle.pm_command_follow.proofs.pieces.print_frames.Given as goal

abbrev pub invariant-loop-id : goal.invariant-loop-id
invariant-loop-id g l =
    let seen = g.F.FileStore.seen in
    let sink = g.W.Sink.seen in
    record {
      low : l.start ≤ l.id;
      bound : (l.id ≡ l.start) ⊎ (l.id ≤ suc l.latest);
      printed : HasPrinted l.schema l.start (l.id - l.start) (sink l.fn.out) (sink l.out) (seen l.fn.store) (seen l.store);
      learned : HasLearned l.schema l.start l.latest (l.id - l.start) (sink l.fn.out) (sink l.out) (seen l.fn.store) (seen l.store);
      out_later : SinkLater (sink l.fn.out) (sink l.out);
      store_later : IsLater (seen l.fn.store) (seen l.store);
    }

abbrev pub decreases-loop-id : goal.decreases-loop-id
decreases-loop-id g l = l.latest + 1 - l.id
