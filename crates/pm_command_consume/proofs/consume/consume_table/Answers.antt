use Rattle.std.proofs.lemmas.Result.{err_from_is_err_and}
use Rattle.pm_command_consume.proofs.OpenLemmas.{beside_then}
use Rattle.pm_command_consume.proofs.PieceLemmas.{opened_then}
use Rattle.pm_command_consume.proofs.consume.consume_table.Goals as goal

pub returns-in_err-place-clause-consumed : goal.returns-in_err-place-clause-consumed
returns-in_err-place-clause-consumed g c = λ first has.
    let p = err_from_is_err_and c.from_residual.result c.from_residual.ensures.1 in
    rw (p.1, p.2) (c.in_err-place.ensures.opened first has)

pub returns-clause-consumed : goal.returns-clause-consumed
returns-clause-consumed g c = λ first has.
    opened_then c.args.schema.now c.args.consuming.now c.in_ok-place.place first (g.F.FileStore.seen c.open_place.new.store) (g.W.Sink.seen c.args.out.now)
    (g.W.Sink.seen c.open_place.new.out) (c.in_ok-place.ensures.opened first has)
    (λ full text trace took. c.consume_on.ensures.consumed full text (g.W.Sink.seen c.args.out.now) first trace took)

pub returns-in_err-place-clause-beside : goal.returns-in_err-place-clause-beside
returns-in_err-place-clause-beside g c = λ me first has learns.
    let p = err_from_is_err_and c.from_residual.result c.from_residual.ensures.1 in
    rw (p.1, p.2) (c.in_err-place.ensures.beside me first has learns)

pub returns-clause-beside : goal.returns-clause-beside
returns-clause-beside g c = λ me first has learns.
    beside_then me c.args.schema.now c.args.consuming.now c.in_ok-place.place first (g.F.FileStore.seen c.open_place.new.store) (g.W.Sink.seen c.args.out.now)
    (g.W.Sink.seen c.open_place.new.out) (c.in_ok-place.ensures.beside me first has learns)
    (λ full table text trace opened. c.consume_on.ensures.beside me full table text (g.W.Sink.seen c.args.out.now) first trace opened)
