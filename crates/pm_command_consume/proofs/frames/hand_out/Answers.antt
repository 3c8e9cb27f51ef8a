use Rattle.std.proofs.Common.{◌+◌, Ok}
use Rattle.std.proofs.lemmas.Result.{err_from_is_err_and}
use Rattle.pm_command_consume.proofs.BesideLemmas.{frame_handed, frame_refused, move_refused}
use Rattle.pm_command_consume.proofs.PieceLemmas.{frame_failed, handed_place, move_failed, one_handed}
use Rattle.pm_command_consume.proofs.frames.hand_out.Goals as goal

pub returns-in_err-print_frame-clause-hands : goal.returns-in_err-print_frame-clause-hands
returns-in_err-print_frame-clause-hands g c =
    let p = err_from_is_err_and c.from_residual.result c.from_residual.ensures.1 in
    rw (p.1, p.2)
    (frame_failed c.args.schema.now c.args.consuming.now c.args.place c.in_err-print_frame.field-0.0 (g.W.Sink.seen c.args.out.now) (g.W.Sink.seen c.print_frame.new.out)
    (g.F.FileStore.seen c.args.store.now) (g.F.FileStore.seen c.print_frame.new.store) c.in_err-print_frame.ensures.prints)

pub returns-in_err-bytes-clause-hands : goal.returns-in_err-bytes-clause-hands
returns-in_err-bytes-clause-hands g c =
    let p = err_from_is_err_and c.from_residual-in_err-bytes.result c.from_residual-in_err-bytes.ensures.1 in
    rw (p.1, p.2)
    (move_failed c.args.schema.now c.args.consuming.now c.args.place c.in_err-bytes.field-0.0 (g.W.Sink.seen c.args.out.now) (g.W.Sink.seen c.print_frame.new.out)
    (g.F.FileStore.seen c.args.store.now) (g.F.FileStore.seen c.print_frame.new.store) (g.F.FileStore.seen c.move_consumer.new.store) c.in_ok-print_frame.ensures.prints
    c.in_err-bytes.ensures.trace)

pub returns-clause-hands : goal.returns-clause-hands
returns-clause-hands g c =
    one_handed c.args.schema.now c.args.consuming.now c.args.place c.in_ok-bytes.bytes (g.W.Sink.seen c.args.out.now) (g.W.Sink.seen c.print_frame.new.out)
    (g.F.FileStore.seen c.args.store.now) (g.F.FileStore.seen c.print_frame.new.store) (g.F.FileStore.seen c.move_consumer.new.store) c.in_ok-print_frame.ensures.prints
    c.in_ok-bytes.ensures.trace

pub returns-in_err-print_frame-clause-beside : goal.returns-in_err-print_frame-clause-beside
returns-in_err-print_frame-clause-beside g c = λ me log.
    let p = err_from_is_err_and c.from_residual.result c.from_residual.ensures.1 in
    rw (p.1, p.2)
    (frame_refused me c.args.schema.now c.args.consuming.now c.frames_law.ensures.known c.args.place c.in_err-print_frame.field-0.0
    (g.W.Sink.seen c.args.out.now) (g.W.Sink.seen c.print_frame.new.out) (g.F.FileStore.seen c.args.store.now) (g.F.FileStore.seen c.print_frame.new.store)
    c.requires.within c.in_err-print_frame.ensures.prints c.in_err-print_frame.ensures.beside)

pub returns-in_err-bytes-clause-beside : goal.returns-in_err-bytes-clause-beside
returns-in_err-bytes-clause-beside g c = λ me log.
    let p = err_from_is_err_and c.from_residual-in_err-bytes.result c.from_residual-in_err-bytes.ensures.1 in
    rw (p.1, p.2)
    (move_refused me c.args.schema.now c.args.consuming.now c.frames_law.ensures.known c.frames_law.ensures.later c.frames_law.ensures.text c.args.place
    c.in_err-bytes.field-0.0 (g.W.Sink.seen c.args.out.now) (g.W.Sink.seen c.print_frame.new.out) (g.F.FileStore.seen c.args.store.now)
    (g.F.FileStore.seen c.print_frame.new.store) (g.F.FileStore.seen c.move_consumer.new.store) log c.requires.within
    (record { plain = c.requires.asked.plain; reads = c.requires.place.reads; within = c.requires.within }) c.in_ok-print_frame.ensures.beside
    (c.in_err-bytes.ensures.beside me) c.in_err-bytes.ensures.trace)

pub returns-clause-beside : goal.returns-clause-beside
returns-clause-beside g c = λ me log.
    frame_handed me c.args.schema.now c.args.consuming.now c.frames_law.ensures.known c.frames_law.ensures.later c.frames_law.ensures.text c.args.place
    (record { next = c.args.place.next + 1; bytes = c.in_ok-bytes.bytes })
    (Ok c.in_ok-bytes.bytes) (g.W.Sink.seen c.args.out.now) (g.W.Sink.seen c.print_frame.new.out) (g.F.FileStore.seen c.args.store.now)
    (g.F.FileStore.seen c.print_frame.new.store) (g.F.FileStore.seen c.move_consumer.new.store) log c.requires.within
    (record { plain = c.requires.asked.plain; reads = c.requires.place.reads; within = c.requires.within }) c.in_ok-print_frame.ensures.beside
    (c.in_ok-bytes.ensures.beside me)

pub returns-clause-place : goal.returns-clause-place
returns-clause-place g c =
    handed_place (record { next = c.consumer_law.ensures.next; again = c.consumer_law.ensures.again }) c.args.consuming.now c.args.place c.in_ok-bytes.bytes
    (g.F.FileStore.seen c.print_frame.new.store) (g.F.FileStore.seen c.move_consumer.new.store) c.requires.place c.requires.within c.in_ok-bytes.ensures.trace
