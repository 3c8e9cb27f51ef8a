use Rattle.std.proofs.Common.{[], None, Some}
use Rattle.std.specs.Result.{result_err}
use Rattle.std.proofs.lemmas.Result.{err_from_is_err_and}
use Rattle.pm_command_generate.specs.Generate.{commands_of}
use Rattle.pm_command_generate.specs.declared.turn.Turn.{Turn}
use Rattle.pm_command_generate.proofs.AllLemmas.{all_gone, last_asked, later_asked, line_generates, memory_generates, refused_generates}
use Rattle.pm_command_generate.proofs.GoneLemmas.{goes_then}
use Rattle.pm_command_generate.proofs.generate.run_generate.Goals as goal

-- before the first command
abbrev first : Turn
first = record { number = 0; last = None }

pub returns-in_err-create-clause-generated : goal.returns-in_err-create-clause-generated
returns-in_err-create-clause-generated g c =
    let seen = g.F.FileStore.seen in
    let d = c.args.drawing.now in
    let start = c.args.start.now in
    let out = g.W.Sink.seen c.args.out.now in
    let p = err_from_is_err_and c.from_residual.result c.from_residual.ensures.1 in
    rw (p.1, p.2)
    (refused_generates d start out (later_asked d) None c.create.new.turn (seen c.args.store.now) (seen c.create.new.store) c.in_err-create.field-0.0
    (c.in_err-create.ensures.goes (later_asked d)))

pub returns-in_err-fill-clause-generated : goal.returns-in_err-fill-clause-generated
returns-in_err-fill-clause-generated g c =
    let seen = g.F.FileStore.seen in
    let d = c.args.drawing.now in
    let start = c.args.start.now in
    let out = g.W.Sink.seen c.args.out.now in
    let p = err_from_is_err_and c.from_residual-in_err-fill.result c.from_residual-in_err-fill.ensures.1 in
    rw (p.1, p.2)
    (refused_generates d start out last_asked None c.fill.new.turn (seen c.args.store.now) (seen c.fill.new.store) c.in_err-fill.field-0.0
    (goes_then start (commands_of d) (later_asked d) last_asked first c.create.new.turn c.fill.new.turn (seen c.args.store.now) (seen c.create.new.store)
    (seen c.fill.new.store) (Some c.in_err-fill.field-0.0) (c.in_ok-create.ensures.goes (later_asked d)) (c.in_err-fill.ensures.goes last_asked)))

pub returns-in_err-text-clause-generated : goal.returns-in_err-text-clause-generated
returns-in_err-text-clause-generated g c =
    let seen = g.F.FileStore.seen in
    let d = c.args.drawing.now in
    let start = c.args.start.now in
    let out = g.W.Sink.seen c.args.out.now in
    let p = err_from_is_err_and c.from_residual-in_err-text.result c.from_residual-in_err-text.ensures.1 in
    rw (p.1, p.2)
    (refused_generates d start out [] None c.scan.new.turn (seen c.args.store.now) (seen c.scan.new.store) c.in_err-text.field-0.0
    (goes_then start (commands_of d) last_asked [] first c.fill.new.turn c.scan.new.turn (seen c.args.store.now) (seen c.fill.new.store) (seen c.scan.new.store)
    (Some c.in_err-text.field-0.0)
    (goes_then start (commands_of d) (later_asked d) last_asked first c.create.new.turn c.fill.new.turn (seen c.args.store.now) (seen c.create.new.store)
    (seen c.fill.new.store) None (c.in_ok-create.ensures.goes (later_asked d)) (c.in_ok-fill.ensures.goes last_asked))
    c.in_err-text.ensures.goes))

pub returns-in_err-line-clause-generated : goal.returns-in_err-line-clause-generated
returns-in_err-line-clause-generated g c =
    let seen = g.F.FileStore.seen in
    let d = c.args.drawing.now in
    let start = c.args.start.now in
    let out = g.W.Sink.seen c.args.out.now in
    let p = err_from_is_err_and c.from_residual-in_err-line.result c.from_residual-in_err-line.ensures.1 in
    rw (p.1, p.2)
    (memory_generates d start out (seen c.args.store.now) (seen c.scan.new.store) c.in_ok-text.text.taken c.scan.new.turn.last
    (all_gone d start out c.fill.new.turn c.scan.new.turn (seen c.args.store.now) (seen c.fill.new.store) (seen c.scan.new.store) c.in_ok-text.text.taken
    (goes_then start (commands_of d) (later_asked d) last_asked first c.create.new.turn c.fill.new.turn (seen c.args.store.now) (seen c.create.new.store)
    (seen c.fill.new.store) None (c.in_ok-create.ensures.goes (later_asked d)) (c.in_ok-fill.ensures.goes last_asked))
    c.in_ok-text.ensures.goes))

pub returns-clause-generated : goal.returns-clause-generated
returns-clause-generated g c =
    let seen = g.F.FileStore.seen in
    let d = c.args.drawing.now in
    let start = c.args.start.now in
    let out = g.W.Sink.seen c.args.out.now in
    line_generates d start out c.deref.result.now c.in_ok-line.line.items c.bytes.result.now (g.W.Sink.seen c.print.new.out) (seen c.args.store.now) (seen c.scan.new.store) c.in_ok-text.text.taken c.scan.new.turn.last
    (result_err c.print.result) c.deref.ensures.value c.in_ok-line.ensures c.bytes.ensures
    (all_gone d start out c.fill.new.turn c.scan.new.turn (seen c.args.store.now) (seen c.fill.new.store) (seen c.scan.new.store) c.in_ok-text.text.taken
    (goes_then start (commands_of d) (later_asked d) last_asked first c.create.new.turn c.fill.new.turn (seen c.args.store.now) (seen c.create.new.store)
    (seen c.fill.new.store) None (c.in_ok-create.ensures.goes (later_asked d)) (c.in_ok-fill.ensures.goes last_asked))
    c.in_ok-text.ensures.goes)
    c.print.ensures.prints
