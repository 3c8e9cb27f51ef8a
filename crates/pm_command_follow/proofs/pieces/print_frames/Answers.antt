use Rattle.std.proofs.Common.{inl, inr, refl, arith}
use Rattle.std.proofs.lemmas.Result.{err_from_is_err_and}
use Rattle.pm_store.proofs.StepLaws.{IsLater-refl, IsLater-trans}
use Rattle.pm_command_follow.proofs.KnownLemmas.{all_learned, frame_stopped, none_learned, one_learned}
use Rattle.pm_command_follow.proofs.PieceLemmas.{finished, none_printed, one_printed, stopped}
use Rattle.pm_command_follow.proofs.pieces.print_frames.Goals as goal

pub loop-id-init : goal.loop-id-init
loop-id-init g c = record {
  low = omega arith;
  bound = inl refl;
  printed = none_printed c.args.schema.now c.args.start (g.W.Sink.seen c.args.out.now) (g.F.FileStore.seen c.args.store.now);
  learned = none_learned c.args.schema.now c.args.start c.args.latest (g.W.Sink.seen c.args.out.now) (g.F.FileStore.seen c.args.store.now);
  out_later = omega arith;
  store_later = IsLater-refl (g.F.FileStore.seen c.args.store.now);
}

pub loop-id-preserved : goal.loop-id-preserved
loop-id-preserved g c =
    let seen = g.F.FileStore.seen in
    let sink = g.W.Sink.seen in
    let so = c.loop-id.invariant in
    record {
      low = omega (arith, so.low);
      bound = inr (omega arith);
      printed = one_printed c.args.schema.now c.args.start c.loop-id.id (sink c.args.out.now) (sink c.loop-id.out) (sink c.print_frame.new.out) (seen c.args.store.now)
          (seen c.loop-id.store) (seen c.print_frame.new.store) so.low so.printed c.in_ok-print_frame.ensures.prints c.print_frame.ensures.out_later;
      learned = one_learned c.frames_law.ensures.known c.frames_law.ensures.later c.frames_law.ensures.next c.args.schema.now c.args.start c.args.latest c.loop-id.id
          (sink c.args.out.now) (sink c.loop-id.out) (sink c.print_frame.new.out) (seen c.args.store.now) (seen c.loop-id.store) (seen c.print_frame.new.store) so.low
          (omega arith) c.requires.latest so.learned c.in_ok-print_frame.ensures.beside;
      out_later = omega (arith, so.out_later, c.print_frame.ensures.out_later);
      store_later = IsLater-trans (seen c.args.store.now) (seen c.loop-id.store) (seen c.print_frame.new.store) so.store_later c.print_frame.ensures.store_later;
    }

pub returns-in_err-print_frame-clause-prints : goal.returns-in_err-print_frame-clause-prints
returns-in_err-print_frame-clause-prints g c =
    let seen = g.F.FileStore.seen in
    let sink = g.W.Sink.seen in
    let so = c.loop-id.invariant in
    let p = err_from_is_err_and c.from_residual.result c.from_residual.ensures.1 in
    rw (p.1, p.2)
    (stopped c.args.schema.now c.args.start c.args.latest c.loop-id.id (sink c.args.out.now) (sink c.loop-id.out) (sink c.print_frame.new.out) (seen c.args.store.now)
    (seen c.loop-id.store) (seen c.print_frame.new.store) c.in_err-print_frame.field-0.0 so.low (omega arith) so.printed c.in_err-print_frame.ensures.prints)

pub returns-clause-prints : goal.returns-clause-prints
returns-clause-prints g c =
    let so = c.loop-id.invariant in
    finished c.args.schema.now c.args.start c.args.latest c.loop-id.id (g.W.Sink.seen c.args.out.now) (g.W.Sink.seen c.loop-id.out) (g.F.FileStore.seen c.args.store.now)
    (g.F.FileStore.seen c.loop-id.store) so.low (omega arith) so.bound so.printed

pub returns-in_err-print_frame-clause-beside : goal.returns-in_err-print_frame-clause-beside
returns-in_err-print_frame-clause-beside g c =
    let seen = g.F.FileStore.seen in
    let sink = g.W.Sink.seen in
    let so = c.loop-id.invariant in
    let p = err_from_is_err_and c.from_residual.result c.from_residual.ensures.1 in
    rw (p.1, p.2)
    (frame_stopped c.frames_law.ensures.known c.frames_law.ensures.later c.frames_law.ensures.next c.args.schema.now c.args.start c.args.latest c.loop-id.id
    (sink c.args.out.now) (sink c.loop-id.out) (sink c.print_frame.new.out) (seen c.args.store.now) (seen c.loop-id.store) (seen c.print_frame.new.store)
    c.in_err-print_frame.field-0.0 so.low (omega arith) c.requires.latest so.learned c.in_err-print_frame.ensures.beside)

pub returns-clause-beside : goal.returns-clause-beside
returns-clause-beside g c =
    let so = c.loop-id.invariant in
    all_learned c.args.schema.now c.args.start c.args.latest c.loop-id.id (g.W.Sink.seen c.args.out.now) (g.W.Sink.seen c.loop-id.out) (g.F.FileStore.seen c.args.store.now)
    (g.F.FileStore.seen c.loop-id.store) so.low (omega arith) so.bound so.learned
