use Rattle.std.proofs.Common.{◌+◌, Ok, ap, refl, arith}
use Rattle.pm_io.specs.Lines.{to_come}
use Rattle.pm_input.proofs.InputLemmas.{limit_in_line, read_end, read_end_line, read_next}
use Rattle.pm_input.proofs.lines.read_lines.Goals as goal

pub returns-in-Ok-None-clause-read : goal.returns-in-Ok-None-clause-read
returns-in-Ok-None-clause-read g c =
    let seen = g.S.Source.seen in
    read_end c.args.limits.now c.loop-number.room (seen c.args.source.now).left c.loop-number.lines c.loop-number.number (to_come c.loop-number.held (seen c.loop-number.source)) c.next_line.new.held (seen c.next_line.new.source).left
    c.loop-number.invariant.so_far (c.in-Ok-None.ensures.end (ap Ok c.in-Ok-None.field-0-is)) (c.in-Ok-None.ensures.ended (ap Ok c.in-Ok-None.field-0-is))

pub returns-in-Err-judge_line-clause-refused : goal.returns-in-Err-judge_line-clause-refused
returns-in-Err-judge_line-clause-refused g c =
    let seen = g.S.Source.seen in
    let so = c.loop-number.invariant.so_far in
    let is = rw c.in-Ok-Some.field-0-is at c.in-Ok-Some.ensures.line in
    limit_in_line c.args.limits.now (seen c.args.source.now).left so.lines (to_come c.loop-number.held (seen c.loop-number.source)) (to_come c.next_line.new.held (seen c.next_line.new.source)) c.in-Ok-Some.line.bytes.items c.in-Ok-Some.line.ended c.in-Err-judge_line.which
    so.whole_is is (λ rest. c.in-Err-judge_line.ensures.first so.lines rest so.is_room so.within)

pub returns-then-not-ended-clause-read : goal.returns-then-not-ended-clause-read
returns-then-not-ended-clause-read g c =
    let seen = g.S.Source.seen in
    let so = c.loop-number.invariant.so_far in
    let is = rw c.in-Ok-Some.field-0-is at c.in-Ok-Some.ensures.line in
    let this = rw c.in-Ok-Some.field-0-is at c.in-Ok-Some.ensures.unbroken in
    read_end_line c.args.limits.now c.loop-number.room (seen c.args.source.now).left c.loop-number.lines c.keep.new.lines c.loop-number.number (to_come c.loop-number.held (seen c.loop-number.source)) c.in-Ok-Some.line.bytes.items c.in-Ok-Some.line.ended c.in-Ok.judged.is_row c.next_line.new.held (seen c.next_line.new.source).left
    so c.if-not-ended.true this (c.in-Ok.ensures.within so.lines so.is_room so.within) is c.in-Ok.ensures.row c.in_ok-keep.ensures

pub loop-number-preserved : goal.loop-number-preserved
loop-number-preserved g c =
    let seen = g.S.Source.seen in
    let so = c.loop-number.invariant.so_far in
    let is = rw c.in-Ok-Some.field-0-is at c.in-Ok-Some.ensures.line in
    record {
      so_far = read_next c.args.limits.now c.loop-number.room c.in-Ok.judged.room (seen c.args.source.now).left c.loop-number.lines c.keep.new.lines c.loop-number.number (c.loop-number.number + 1) (to_come c.loop-number.held (seen c.loop-number.source)) (to_come c.next_line.new.held (seen c.next_line.new.source)) c.in-Ok-Some.line.bytes.items c.in-Ok-Some.line.ended c.in-Ok.judged.is_row
          so c.if-not-ended.false is (c.in-Ok.ensures.within so.lines so.is_room so.within) (c.in-Ok.ensures.room so.lines so.is_room c.if-not-ended.false) c.in-Ok.ensures.row c.in_ok-keep.ensures refl;
      later = omega (arith, c.loop-number.invariant.later, c.next_line.ensures.later);
    }
