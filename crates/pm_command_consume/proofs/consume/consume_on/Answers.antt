use Rattle.std.specs.Result.{result_err}
use Rattle.std.proofs.lemmas.Result.{err_from_is_err_and}
use Rattle.pm_command_consume.proofs.OpenLemmas.{frames_beside, listing_stops, opens_so}
use Rattle.pm_command_consume.proofs.PieceLemmas.{frames_shown, second_shown}
use Rattle.pm_command_consume.proofs.consume.consume_on.Goals as goal

pub returns-in_err-latest-clause-consumed : goal.returns-in_err-latest-clause-consumed
returns-in_err-latest-clause-consumed g c = λ full text out_first first opens took.
    let p = err_from_is_err_and c.from_residual.result c.from_residual.ensures.1 in
    rw (p.1, p.2)
    (second_shown c.args.schema.now c.args.consuming.now c.args.place full text c.in_err-latest.field-0.0 out_first (g.W.Sink.seen c.args.out.now) first
    (g.F.FileStore.seen c.args.store.now) (g.F.FileStore.seen c.read_latest.new.store) opens took c.in_err-latest.ensures.trace)

pub returns-clause-consumed : goal.returns-clause-consumed
returns-clause-consumed g c = λ full text out_first first opens took.
    frames_shown c.args.schema.now c.args.consuming.now c.args.place full c.in_ok-latest.latest text out_first (g.W.Sink.seen c.args.out.now)
    (g.W.Sink.seen c.hand_out_frames.new.out) first (g.F.FileStore.seen c.args.store.now) (g.F.FileStore.seen c.read_latest.new.store)
    (g.F.FileStore.seen c.hand_out_frames.new.store) opens took c.in_ok-latest.ensures.trace (result_err c.hand_out_frames.result) c.hand_out_frames.ensures.hands

pub returns-in_err-latest-clause-beside : goal.returns-in_err-latest-clause-beside
returns-in_err-latest-clause-beside g c = λ me full table text out_first first opens opened.
    let p = err_from_is_err_and c.from_residual.result c.from_residual.ensures.1 in
    let out = g.W.Sink.seen c.args.out.now in
    let store = g.F.FileStore.seen c.args.store.now in
    rw (p.1, p.2)
    (listing_stops c.pieces_law.ensures.first me c.args.schema.now c.args.consuming.now c.args.place full table text out_first out out first store opens opened
    c.in_err-latest.field-0.0 (g.F.FileStore.seen c.read_latest.new.store) c.in_err-latest.ensures.trace
    c.in_err-latest.ensures.refused)

pub returns-clause-beside : goal.returns-clause-beside
returns-clause-beside g c = λ me full table text out_first first opens opened.
    let out = g.W.Sink.seen c.args.out.now in
    let out_after = g.W.Sink.seen c.hand_out_frames.new.out in
    let store = g.F.FileStore.seen c.args.store.now in
    let so = opens_so c.args.schema.now c.args.consuming.now c.args.place full table first store opens in
    frames_beside c.pieces_law.ensures.first me c.args.schema.now c.args.consuming.now c.args.place full table text out_first out out_after first store opens opened
    c.in_ok-latest.latest (g.F.FileStore.seen c.read_latest.new.store) (g.F.FileStore.seen c.hand_out_frames.new.store) c.in_ok-latest.ensures.trace
    c.in_ok-latest.ensures.beside (result_err c.hand_out_frames.result) c.hand_out_frames.ensures.hands
    (c.hand_out_frames.ensures.beside me so.0)
