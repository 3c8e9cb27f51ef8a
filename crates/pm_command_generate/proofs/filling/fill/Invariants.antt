use Rattle.std.proofs.Common.{◌≤◌, ◌+◌, ◌-◌, ◌*◌, ◌++◌, List, None}
use Rattle.pm_store.specs.Store.{IsLater}
use Rattle.pm_command_generate.specs.Generate.{Asked, Goes, batches_after}
use Rattle.pm_command_generate.proofs.filling.fill.Given as goal

-- so many batches have gone, and the others are left
abbrev pub invariant-loop-done : goal.invariant-loop-done
invariant-loop-done g l =
    let seen = g.F.FileStore.seen in
    record {
      goes : (left : List Asked) → Goes l.start (batches_after l.drawing.rows l.drawing.seed 0 l.drawing.batches ++ left)
          (batches_after l.drawing.rows l.draws l.done (l.drawing.batches - l.done) ++ left) l.fn.turn l.turn (seen l.fn.store) (seen l.store) None;
      number : l.turn.number ≤ l.fn.turn.number + 2 * l.done;
      later : IsLater (seen l.fn.store) (seen l.store);
    }
