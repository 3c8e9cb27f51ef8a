use Rattle.std.proofs.Common.{◌++◌, true, Err, IfSome, sym, ap, ◌∙◌, subst}
use Rattle.pm_io.specs.Lines.{to_come}
use Rattle.pm_input.specs.Judge.{joined, exceeded_from}
use Rattle.pm_input.specs.Lines.{IsRefused}
use Rattle.pm_input.specs.declared.lines.InputFault.{InputFault}
use Rattle.pm_input.proofs.InputLemmas.{line_refused}
use Rattle.pm_input.proofs.lines.next_line.Goals as goal

pub returns-in-Err-clause-refused : goal.returns-in-Err-clause-refused
returns-in-Err-clause-refused g c =
    let limits = c.args.limits.now in
    let room = c.args.room.now in
    let before = g.S.Source.seen c.args.source.now in
    let known = (g.S.Source.seen c.read_line.new.source).left in
    let is = sym (c.first_limit-limit.ensures ∙ ap (exceeded_from limits room 0 true) c.begun.ensures) in
    λ lines is_room within.
    subst (λ (fault : InputFault). IfSome (to_come c.args.held.now before) (λ bytes. IsRefused limits fault (joined lines ++ bytes) known)) (sym c.fault_of-fault.ensures)
    (line_refused limits room c.args.held.now c.read_line.new.self before.left known c.in-Err.fault c.first_limit-limit.result c.in-Err.ensures.kept c.in-Err.ensures.begun is
    (λ e. (c.in-Err.ensures.asked (ap Err e)).0) (λ e. c.in-Err.ensures.over (ap Err e)) lines is_room within)
