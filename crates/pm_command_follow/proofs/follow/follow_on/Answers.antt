use Rattle.std.specs.Result.{result_err}
use Rattle.std.proofs.lemmas.Result.{err_from_is_err_and}
use Rattle.pm_command_follow.proofs.KnownLemmas.{frames_beside, listing_beside}
use Rattle.pm_command_follow.proofs.PieceLemmas.{frames_shown, second_shown}
use Rattle.pm_command_follow.proofs.follow.follow_on.Goals as goal

pub returns-in_err-latest-clause-followed : goal.returns-in_err-latest-clause-followed
returns-in_err-latest-clause-followed g c = λ from full text out_first first opens took.
    let p = err_from_is_err_and c.from_residual.result c.from_residual.ensures.1 in
    rw (p.1, p.2)
    (second_shown c.args.schema.now from full c.args.start text c.in_err-latest.field-0.0 out_first (g.W.Sink.seen c.args.out.now) first
    (g.F.FileStore.seen c.args.store.now) (g.F.FileStore.seen c.read_latest.new.store) opens took c.in_err-latest.ensures.trace)

pub returns-clause-followed : goal.returns-clause-followed
returns-clause-followed g c = λ from full text out_first first opens took.
    frames_shown c.args.schema.now from full c.args.start c.in_ok-latest.latest text out_first (g.W.Sink.seen c.args.out.now) (g.W.Sink.seen c.print_frames.new.out) first
    (g.F.FileStore.seen c.args.store.now) (g.F.FileStore.seen c.read_latest.new.store) (g.F.FileStore.seen c.print_frames.new.store)
    (result_err c.print_frames.result) opens took c.in_ok-latest.ensures.trace c.print_frames.ensures.prints

pub returns-in_err-latest-clause-beside : goal.returns-in_err-latest-clause-beside
returns-in_err-latest-clause-beside g c = λ from full text out_first first opens begun.
    let p = err_from_is_err_and c.from_residual.result c.from_residual.ensures.1 in
    rw (p.1, p.2)
    (listing_beside c.pieces_law.ensures.first c.args.schema.now from full c.args.start text c.in_err-latest.field-0.0 out_first (g.W.Sink.seen c.args.out.now) first
    (g.F.FileStore.seen c.args.store.now) (g.F.FileStore.seen c.read_latest.new.store) opens begun c.in_err-latest.ensures.trace
    c.in_err-latest.ensures.refused)

pub returns-clause-beside : goal.returns-clause-beside
returns-clause-beside g c = λ from full text out_first first opens begun.
    frames_beside c.pieces_law.ensures.first c.args.schema.now from full c.args.start c.in_ok-latest.latest text out_first (g.W.Sink.seen c.args.out.now)
    (g.W.Sink.seen c.print_frames.new.out) first (g.F.FileStore.seen c.args.store.now) (g.F.FileStore.seen c.read_latest.new.store)
    (g.F.FileStore.seen c.print_frames.new.store) (result_err c.print_frames.result) opens begun c.in_ok-latest.ensures.trace c.in_ok-latest.ensures.beside
    c.print_frames.ensures.prints c.print_frames.ensures.beside
