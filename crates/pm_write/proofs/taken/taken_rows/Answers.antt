use Rattle.std.proofs.Common.{[], map, ap}
use Rattle.std.proofs.lemmas.Result.{err_from_is_err_and}
use Rattle.pm_input.specs.Rows.{refusal_in}
use Rattle.pm_engine.specs.Covers.{row_of}
use Rattle.pm_write.proofs.TakenLemmas.{all_halves, first_refused, later_refused}
use Rattle.pm_write.proofs.taken.taken_rows.Goals as goal

-- a line of the first half is refused
pub returns-in_err-room-clause-exact : goal.returns-in_err-room-clause-exact
returns-in_err-room-clause-exact c =
    let p = err_from_is_err_and c.from_residual-in_err-room.result c.from_residual-in_err-room.ensures.1 in
    rw (p.1, p.2)
    (first_refused c.args.schema.now 100000 c.args.lines c.in_ok-first.first c.in_ok-first.later (map row_of c.new-rows.result) (refusal_in c.in_err-room.field-0.0)
    c.in_ok-first.ensures (ap (map row_of) c.new-rows.ensures) (c.in_err-room.ensures.refused c.in_ok-first.later))

-- one of the later half is
pub returns-in_err-take_lines-clause-exact : goal.returns-in_err-take_lines-clause-exact
returns-in_err-take_lines-clause-exact c =
    let p = err_from_is_err_and c.from_residual-in_err-take_lines.result c.from_residual-in_err-take_lines.ensures.1 in
    rw (p.1, p.2)
    (later_refused c.args.schema.now 100000 c.in_ok-room.room c.args.lines c.in_ok-first.first c.in_ok-first.later (map row_of c.new-rows.result) (map row_of c.take_lines.new.rows) (refusal_in c.in_err-take_lines.field-0.0)
    c.in_ok-first.ensures (ap (map row_of) c.new-rows.ensures) (c.in_ok-room.ensures.more c.in_ok-first.later) (c.in_err-take_lines.ensures.refused []))

pub returns-clause-exact : goal.returns-clause-exact
returns-clause-exact c =
    all_halves c.args.schema.now 100000 c.in_ok-room.room c.in_ok-take_lines.field-0 c.args.lines c.in_ok-first.first c.in_ok-first.later (map row_of c.new-rows.result) (map row_of c.take_lines.new.rows) (map row_of c.take_lines-2.new.rows)
    c.in_ok-first.ensures (ap (map row_of) c.new-rows.ensures) (c.in_ok-room.ensures.more c.in_ok-first.later) (c.in_ok-take_lines.ensures.more [])
