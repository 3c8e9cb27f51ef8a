use Rattle.std.proofs.Common.{inl, inr, refl, arith}
use Rattle.std.proofs.lemmas.Result.{err_from_is_err_and}
use Rattle.pm_store.proofs.StepLaws.{IsLater-refl, IsLater-trans}
use Rattle.pm_command_consume.proofs.BesideLemmas.{all_brought, frames_stopped, none_brought, one_brought}
use Rattle.pm_command_consume.proofs.PieceLemmas.{finished, from_place, next_number, next_place, none_handed, one_more, stopped}
use Rattle.pm_command_consume.proofs.frames.hand_out_frames.Goals as goal

pub loop-place-init : goal.loop-place-init
loop-place-init g c = record {
  from = from_place c.args.place;
  good = c.requires.place;
  bound = inl refl;
  handed = none_handed c.args.schema.now c.args.consuming.now c.args.place (g.W.Sink.seen c.args.out.now) (g.F.FileStore.seen c.args.store.now);
  brought = λ me log.
      none_brought me c.args.schema.now c.args.consuming.now c.args.place.next c.args.latest (g.W.Sink.seen c.args.out.now) (g.F.FileStore.seen c.args.store.now);
  out_later = omega arith;
  store_later = IsLater-refl (g.F.FileStore.seen c.args.store.now);
}

pub loop-place-preserved : goal.loop-place-preserved
loop-place-preserved g c =
    let seen = g.F.FileStore.seen in
    let sink = g.W.Sink.seen in
    let so = c.loop-place.invariant in
    let next = next_number c.args.schema.now c.args.consuming.now c.loop-place.place c.in_ok-place.place (sink c.loop-place.out) (sink c.hand_out.new.out)
    (seen c.loop-place.store) (seen c.hand_out.new.store) c.in_ok-place.ensures.hands in
    record {
      from = next_place c.args.place c.loop-place.place c.in_ok-place.place so.from next.1;
      good = c.in_ok-place.ensures.place;
      bound = inr (omega (arith, next.0));
      handed = one_more c.args.schema.now c.args.consuming.now c.args.place c.loop-place.place c.in_ok-place.place (sink c.args.out.now) (sink c.loop-place.out)
          (sink c.hand_out.new.out) (seen c.args.store.now) (seen c.loop-place.store) (seen c.hand_out.new.store) so.from so.handed c.in_ok-place.ensures.hands
          c.hand_out.ensures.out_later;
      brought = λ me log.
          one_brought me c.args.schema.now c.args.consuming.now c.frames_law.ensures.later c.frames_law.ensures.next c.args.place.next c.args.latest c.loop-place.place
          c.in_ok-place.place (sink c.args.out.now) (sink c.loop-place.out) (sink c.hand_out.new.out) (seen c.args.store.now) (seen c.loop-place.store)
          (seen c.hand_out.new.store) so.from.low (omega arith) next.0 (so.brought me log) (c.in_ok-place.ensures.beside me log);
      out_later = omega (arith, so.out_later, c.hand_out.ensures.out_later);
      store_later = IsLater-trans (seen c.args.store.now) (seen c.loop-place.store) (seen c.hand_out.new.store) so.store_later c.hand_out.ensures.store_later;
    }

pub returns-in_err-place-clause-hands : goal.returns-in_err-place-clause-hands
returns-in_err-place-clause-hands g c =
    let seen = g.F.FileStore.seen in
    let sink = g.W.Sink.seen in
    let so = c.loop-place.invariant in
    let p = err_from_is_err_and c.from_residual.result c.from_residual.ensures.1 in
    rw (p.1, p.2)
    (stopped c.args.schema.now c.args.consuming.now c.args.place c.loop-place.place c.args.latest c.in_err-place.field-0.0 (sink c.args.out.now) (sink c.loop-place.out)
    (sink c.hand_out.new.out) (seen c.args.store.now) (seen c.loop-place.store) (seen c.hand_out.new.store) so.from (omega arith) so.handed c.hand_out.ensures.out_later
    c.in_err-place.ensures.hands)

pub returns-clause-hands : goal.returns-clause-hands
returns-clause-hands g c =
    let so = c.loop-place.invariant in
    finished c.args.schema.now c.args.consuming.now c.args.place c.loop-place.place c.args.latest (g.W.Sink.seen c.args.out.now) (g.W.Sink.seen c.loop-place.out)
    (g.F.FileStore.seen c.args.store.now) (g.F.FileStore.seen c.loop-place.store) so.from (omega arith) so.bound so.handed

pub returns-in_err-place-clause-beside : goal.returns-in_err-place-clause-beside
returns-in_err-place-clause-beside g c = λ me log.
    let seen = g.F.FileStore.seen in
    let sink = g.W.Sink.seen in
    let so = c.loop-place.invariant in
    let p = err_from_is_err_and c.from_residual.result c.from_residual.ensures.1 in
    rw (p.1, p.2)
    (frames_stopped me c.args.schema.now c.args.consuming.now c.frames_law.ensures.later c.frames_law.ensures.next c.args.place c.loop-place.place c.args.latest
    c.in_err-place.field-0.0 (sink c.args.out.now) (sink c.loop-place.out) (sink c.hand_out.new.out) (seen c.args.store.now) (seen c.loop-place.store)
    (seen c.hand_out.new.store) so.from.low (omega arith) (so.brought me log) (c.in_err-place.ensures.beside me log))

pub returns-clause-beside : goal.returns-clause-beside
returns-clause-beside g c = λ me log.
    let so = c.loop-place.invariant in
    all_brought me c.args.schema.now c.args.consuming.now c.args.place c.loop-place.place c.args.latest (g.W.Sink.seen c.args.out.now) (g.W.Sink.seen c.loop-place.out)
    (g.F.FileStore.seen c.args.store.now) (g.F.FileStore.seen c.loop-place.store) so.from.low (omega arith) so.bound (so.brought me log)
