use Rattle.std.proofs.Common.{◌≡◌, ◌<◌, ◌≤◌, ◌+◌, ◌++◌, suc, arith}
use Rattle.std.proofs.lemmas.Result.{err_from_is_err_and}
use Rattle.pm_store.proofs.StepLaws.{IsLater-refl, IsLater-trans}
use Rattle.pm_command_generate.specs.Generate.{batches_after}
use Rattle.pm_command_generate.proofs.FillLemmas.{all_filled, none_drawn, none_filled, not_compacted, not_written, one_filled}
use Rattle.pm_command_generate.proofs.filling.fill.Goals as goal

pub loop-done-init : goal.loop-done-init
loop-done-init g c = record {
  goes = λ left. none_filled c.args.start.now c.args.drawing.now.rows c.args.drawing.now.seed c.args.drawing.now.batches c.of-draws.result left c.args.turn.now
      (g.F.FileStore.seen c.args.store.now) c.of-draws.ensures;
  number = omega arith;
  later = IsLater-refl (g.F.FileStore.seen c.args.store.now);
}

pub loop-done-preserved : goal.loop-done-preserved
loop-done-preserved g c =
    let seen = g.F.FileStore.seen in
    let so = c.loop-done.invariant in
    let d = c.args.drawing.now in
    let some : c.loop-done.done < d.batches = omega arith in
    let count : c.loop-done.done + 1 ≡ suc c.loop-done.done = omega arith in
    record {
      goes = λ left. one_filled c.args.start.now (batches_after d.rows d.seed 0 d.batches ++ left) d.rows c.loop-done.draws c.loop-done.done d.batches c.args.turn.now
          c.loop-done.turn (seen c.args.store.now) (seen c.loop-done.store) c.in_ok-lines.lines.items c.in_ok-lines.ensures.text some c.write.new.turn (seen c.write.new.store)
          (c.loop-done.done + 1) count c.compact_after.new.turn (seen c.compact_after.new.store) c.in_ok-write.ensures.goes left c.batch.new.self c.in_ok-lines.ensures.last
          (so.goes left) c.in_ok-compact_after.ensures.goes;
      number = omega (arith, so.number, c.in_ok-write.ensures.next, c.in_ok-compact_after.ensures.next);
      later = IsLater-trans (seen c.args.store.now) (seen c.loop-done.store) (seen c.compact_after.new.store) so.later
          (IsLater-trans (seen c.loop-done.store) (seen c.write.new.store) (seen c.compact_after.new.store) c.write.ensures.later c.compact_after.ensures.later);
    }

pub returns-in_err-lines-clause-goes : goal.returns-in_err-lines-clause-goes
returns-in_err-lines-clause-goes g c =
    λ left.
    let seen = g.F.FileStore.seen in
    let so = c.loop-done.invariant in
    let d = c.args.drawing.now in
    let p = err_from_is_err_and c.from_residual.result c.from_residual.ensures.1 in
    rw (p.1, p.2)
    (none_drawn c.args.start.now (batches_after d.rows d.seed 0 d.batches ++ left) d.rows c.loop-done.draws c.loop-done.done d.batches c.args.turn.now
    c.loop-done.turn (seen c.args.store.now) (seen c.loop-done.store) left (so.goes left))

pub returns-in_err-write-clause-goes : goal.returns-in_err-write-clause-goes
returns-in_err-write-clause-goes g c =
    λ left.
    let seen = g.F.FileStore.seen in
    let so = c.loop-done.invariant in
    let d = c.args.drawing.now in
    let some : c.loop-done.done < d.batches = omega arith in
    let p = err_from_is_err_and c.from_residual-in_err-write.result c.from_residual-in_err-write.ensures.1 in
    rw (p.1, p.2)
    (not_written c.args.start.now (batches_after d.rows d.seed 0 d.batches ++ left) d.rows c.loop-done.draws c.loop-done.done d.batches c.args.turn.now
    c.loop-done.turn (seen c.args.store.now) (seen c.loop-done.store) c.in_ok-lines.lines.items c.in_ok-lines.ensures.text some c.write.new.turn
    (seen c.write.new.store) left c.in_err-write.field-0.0 (so.goes left) c.in_err-write.ensures.goes)

pub returns-in_err-compact_after-clause-goes : goal.returns-in_err-compact_after-clause-goes
returns-in_err-compact_after-clause-goes g c =
    λ left.
    let seen = g.F.FileStore.seen in
    let so = c.loop-done.invariant in
    let d = c.args.drawing.now in
    let some : c.loop-done.done < d.batches = omega arith in
    let count : c.loop-done.done + 1 ≡ suc c.loop-done.done = omega arith in
    let p = err_from_is_err_and c.from_residual-in_err-compact_after.result c.from_residual-in_err-compact_after.ensures.1 in
    rw (p.1, p.2)
    (not_compacted c.args.start.now (batches_after d.rows d.seed 0 d.batches ++ left) d.rows c.loop-done.draws c.loop-done.done d.batches c.args.turn.now
    c.loop-done.turn (seen c.args.store.now) (seen c.loop-done.store) c.in_ok-lines.lines.items c.in_ok-lines.ensures.text some c.write.new.turn
    (seen c.write.new.store) (c.loop-done.done + 1) count c.compact_after.new.turn (seen c.compact_after.new.store) c.in_ok-write.ensures.goes left
    c.in_err-compact_after.field-0.0 (so.goes left) c.in_err-compact_after.ensures.goes)

pub returns-clause-goes : goal.returns-clause-goes
returns-clause-goes g c =
    λ left.
    let seen = g.F.FileStore.seen in
    let so = c.loop-done.invariant in
    let d = c.args.drawing.now in
    let none : d.batches ≤ c.loop-done.done = omega arith in
    all_filled c.args.start.now (batches_after d.rows d.seed 0 d.batches ++ left) d.rows c.loop-done.draws c.loop-done.done d.batches c.args.turn.now
    c.loop-done.turn (seen c.args.store.now) (seen c.loop-done.store) left none (so.goes left)
