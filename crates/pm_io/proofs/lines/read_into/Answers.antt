use Rattle.std.proofs.Common.{Ok, ap, arith}
use Rattle.std.proofs.lemmas.Option.{IfSome_then}
use Rattle.pm_io.proofs.Reading.{with_prefix-read, line_ended, line_last, line_long}
use Rattle.pm_io.proofs.lines.read_into.Goals as goal

pub returns-then-not-branch-clause-line : goal.returns-then-not-branch-clause-line
returns-then-not-branch-clause-line g c =
    let told = with_prefix-read c.loop-alloc.begun.items c.loop-alloc.ahead c.refill.new.self _ _ _ c.loop-alloc.invariant.kept c.in_ok-refill.ensures.kept in
    let none = ap Ok c.if-not-branch.true in
    IfSome_then c.last_line.result c.last_line.ensures.some (λ line h. line_last c.loop-alloc.begun.items c.refill.new.self _ _ _ (g.S.Source.seen c.refill.new.source).left _ told (c.in_ok-refill.ensures.none none) (c.in_ok-refill.ensures.end none) c.loop-alloc.invariant.unbroken h.0 h.1 h.2 c.last_line.ensures.after)

pub returns-then-branch-clause-line : goal.returns-then-branch-clause-line
returns-then-branch-clause-line g c =
    let told = with_prefix-read c.loop-alloc.begun.items c.loop-alloc.ahead c.refill.new.self _ _ _ c.loop-alloc.invariant.kept c.in_ok-refill.ensures.kept in
    let piece = c.in_ok-take_piece.ensures.ended (ap Ok c.if-branch.true) in
    line_ended _ c.take_piece.new.begun.items c.take_piece.new.ahead _ _ (g.S.Source.seen c.refill.new.source).left _ told piece c.take_piece.ensures.unbroken (ap (λ v. v.items) c.replace-bytes.ensures.value) (rw c.replace-bytes.ensures.after c.new.ensures.items)

pub returns-clause-long : goal.returns-clause-long
returns-clause-long g c = λ _. line_long c.args.max _ _ _ _ c.loop-alloc.invariant.kept c.loop-alloc.invariant.unbroken (omega arith)
