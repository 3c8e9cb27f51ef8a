use Rattle.std.proofs.lemmas.Result.{err_from_is_err_and}
use Rattle.std.specs.Result.{result_err}
use Rattle.pm_command_write.specs.Input.{HasLines, RefusesInput}
use Rattle.pm_command.specs.Outside.{outside}
use Rattle.pm_command.proofs.Uncalled.{at_known}
use Rattle.pm_command_write.proofs.WriteLaws.{input_acts, input_refused, input_written, lines_acts, lines_serve, refused_serves}
use Rattle.pm_command_write.proofs.write.run_write.Goals as goal

pub returns-in_err-lines-clause-command : goal.returns-in_err-lines-clause-command
returns-in_err-lines-clause-command g c =
    let p = err_from_is_err_and c.from_residual.result c.from_residual.ensures.1 in
    rw (p.1, p.2)
    (λ bytes is. input_refused c.args.start.now c.args.writer bytes (g.S.Source.seen c.args.input.now)
    (g.S.Source.seen c.read_input.new.input) (g.W.Sink.seen c.args.out.now) (g.F.FileStore.seen c.args.store.now) c.in_err-lines.field-0.0
    (at_known (λ bytes. RefusesInput bytes (g.S.Source.seen c.args.input.now) (g.S.Source.seen c.read_input.new.input) c.in_err-lines.field-0.0)
    (g.S.Source.seen c.args.input.now).left bytes is c.in_err-lines.ensures.answer))

pub returns-in_err-lines-clause-acts : goal.returns-in_err-lines-clause-acts
returns-in_err-lines-clause-acts g c =
    let p = err_from_is_err_and c.from_residual.result c.from_residual.ensures.1 in
    rw (p.1, p.2)
    (input_acts c.args.start.now c.args.writer (g.S.Source.seen c.args.input.now)
    (g.S.Source.seen c.read_input.new.input) (g.W.Sink.seen c.args.out.now) (g.F.FileStore.seen c.args.store.now) c.in_err-lines.field-0.0
    c.in_err-lines.ensures.refusal)

pub returns-in_err-lines-clause-history : goal.returns-in_err-lines-clause-history
returns-in_err-lines-clause-history g c =
    let p = err_from_is_err_and c.from_residual.result c.from_residual.ensures.1 in
    rw (p.1, p.2)
    (refused_serves c.args.start.now c.args.writer (g.S.Source.seen c.args.input.now)
    (g.S.Source.seen c.read_input.new.input) (g.W.Sink.seen c.args.out.now) (g.F.FileStore.seen c.args.store.now) c.in_err-lines.field-0.0
    c.in_err-lines.ensures.answer)

pub returns-clause-command : goal.returns-clause-command
returns-clause-command g c = λ bytes is.
    let lines = c.in_ok-lines.lines in
    input_written c.args.start.now c.args.writer bytes lines
    (outside (g.S.Source.seen c.args.input.now) (g.W.Sink.seen c.args.out.now) (g.F.FileStore.seen c.args.store.now))
    (outside (g.S.Source.seen c.read_input.new.input) (g.W.Sink.seen c.write_lines.new.out) (g.F.FileStore.seen c.write_lines.new.store))
    (result_err c.write_lines.result)
    (at_known (λ bytes. HasLines bytes (g.S.Source.seen c.read_input.new.input) lines) (g.S.Source.seen c.args.input.now).left bytes is c.in_ok-lines.ensures.answer)
    c.write_lines.ensures.written

pub returns-clause-acts : goal.returns-clause-acts
returns-clause-acts g c =
    lines_acts c.args.start.now c.args.writer c.in_ok-lines.lines
    (outside (g.S.Source.seen c.args.input.now) (g.W.Sink.seen c.args.out.now) (g.F.FileStore.seen c.args.store.now))
    (outside (g.S.Source.seen c.read_input.new.input) (g.W.Sink.seen c.write_lines.new.out) (g.F.FileStore.seen c.write_lines.new.store))
    (result_err c.write_lines.result) c.write_lines.ensures.written

pub returns-clause-history : goal.returns-clause-history
returns-clause-history g c =
    lines_serve c.args.start.now c.args.writer c.in_ok-lines.lines
    (outside (g.S.Source.seen c.args.input.now) (g.W.Sink.seen c.args.out.now) (g.F.FileStore.seen c.args.store.now))
    (outside (g.S.Source.seen c.read_input.new.input) (g.W.Sink.seen c.write_lines.new.out) (g.F.FileStore.seen c.write_lines.new.store))
    (result_err c.write_lines.result) c.in_ok-lines.ensures.answer
    c.write_lines.ensures.written
