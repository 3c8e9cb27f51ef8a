use Rattle.std.proofs.Common.{rules}
use Rattle.std.proofs.lemmas.Result.{err_from_is_err_and}
use Rattle.pm_io.specs.LineBuffer.{line_at, Fit}
use Rattle.pm_io.proofs.Lemmas.{TookPrefix-first}
use Rattle.pm_io.proofs.LineLemmas.{Writes-after}
use Rattle.pm_io.proofs.line_buffer.LineBuffer.write.Goals as goal

-- what was held was not taken whole
pub returns-in_err-flush : goal.returns-in_err-flush
returns-in_err-flush g c =
    let p = err_from_is_err_and c.from_residual.result c.from_residual.ensures.1 in
    let seen = g.W.Sink.seen in
    let full : Fit c.args.self.now c.args.bytes.now → ⊥ = search rules in
    rw (p.1)
    record {
      prefix = TookPrefix-first (seen c.args.sink.now).taken (seen c.flush.new.sink).taken c.args.self.now c.args.bytes.now c.in_err-flush.ensures.prefix;
      full = full;
      failed = c.in_err-flush.ensures.failed;
      later = c.flush.ensures.later;
      none = c.flush.ensures.none;
    }

-- the text is longer than all the room
pub returns : goal.returns
returns g c =
    let seen = g.W.Sink.seen in
    let full : Fit c.args.self.now c.args.bytes.now → ⊥ = search rules in
    Writes-after seen c.args.bytes.now (line_at c.args.self.now c.args.sink.now) (line_at c.flush.new.self c.write_all.new.sink) c.flush.new.sink c.write_all.result full
    c.flush.ensures.none c.in_ok-flush.ensures.ok c.flush.ensures.later c.write_all.ensures.ok c.write_all.ensures.prefix c.write_all.ensures.failed c.write_all.ensures.later
