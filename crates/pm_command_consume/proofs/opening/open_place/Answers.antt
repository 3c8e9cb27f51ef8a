use Rattle.std.proofs.lemmas.Result.{err_from_is_err_and}
use Rattle.pm_command_consume.proofs.OpenLemmas.{file_refused, found_kept, settled_beside}
use Rattle.pm_command_consume.proofs.PieceLemmas.{file_shown, settled_opened, settled_place, unsettled_found}
use Rattle.pm_command_consume.proofs.opening.open_place.Goals as goal

pub returns-in_err-found-clause-opened : goal.returns-in_err-found-clause-opened
returns-in_err-found-clause-opened g c = λ first has.
    let p = err_from_is_err_and c.from_residual.result c.from_residual.ensures.1 in
    rw (p.1, p.2)
    (file_shown c.args.schema.now c.args.consuming.now c.in_err-found.field-0.0 (g.W.Sink.seen c.args.out.now) first (g.F.FileStore.seen c.args.store.now)
    (g.F.FileStore.seen c.find_consumer.new.store) has c.in_err-found.ensures.trace)

pub returns-in-Settled-clause-opened : goal.returns-in-Settled-clause-opened
returns-in-Settled-clause-opened g c = λ first has.
    settled_opened c.args.schema.now c.args.consuming.now c.in_ok-found.found c.in-Settled.place (g.W.Sink.seen c.args.out.now) first (g.F.FileStore.seen c.args.store.now)
    (g.F.FileStore.seen c.find_consumer.new.store) (rw c.in-Settled.is at c.standing_of.ensures) has c.in_ok-found.ensures.trace

pub returns-in-Unsettled-clause-opened : goal.returns-in-Unsettled-clause-opened
returns-in-Unsettled-clause-opened g c = λ first has.
    c.join.ensures.opened first
    (unsettled_found c.args.schema.now c.args.consuming.now c.in_ok-found.found c.in-Unsettled.found first (g.F.FileStore.seen c.args.store.now)
    (g.F.FileStore.seen c.find_consumer.new.store) (rw c.in-Unsettled.is at c.standing_of.ensures) has c.in_ok-found.ensures.trace)

pub returns-in_err-found-clause-beside : goal.returns-in_err-found-clause-beside
returns-in_err-found-clause-beside g c = λ me first has learns.
    let p = err_from_is_err_and c.from_residual.result c.from_residual.ensures.1 in
    rw (p.1, p.2)
    (file_refused me c.args.schema.now c.args.consuming.now c.in_err-found.field-0.0 (g.W.Sink.seen c.args.out.now) first
    (g.F.FileStore.seen c.args.store.now) (g.F.FileStore.seen c.find_consumer.new.store) learns c.in_err-found.ensures.trace c.in_err-found.ensures.beside)

pub returns-in-Settled-clause-beside : goal.returns-in-Settled-clause-beside
returns-in-Settled-clause-beside g c = λ me first has learns.
    settled_beside me c.args.schema.now c.args.consuming.now c.in_ok-found.found c.in-Settled.place (g.W.Sink.seen c.args.out.now) first
    (g.F.FileStore.seen c.args.store.now) (g.F.FileStore.seen c.find_consumer.new.store) (rw c.in-Settled.is at c.standing_of.ensures) has learns
    c.in_ok-found.ensures.trace c.in_ok-found.ensures.beside

pub returns-in-Settled-clause-place : goal.returns-in-Settled-clause-place
returns-in-Settled-clause-place g c =
    settled_place (record { next = c.consumer_law.ensures.next; again = c.consumer_law.ensures.again }) c.args.consuming.now.name c.in_ok-found.found c.in-Settled.place
    (g.F.FileStore.seen c.args.store.now) (g.F.FileStore.seen c.find_consumer.new.store) (rw c.in-Settled.is at c.standing_of.ensures) c.in_ok-found.ensures.trace

pub returns-in-Unsettled-clause-beside : goal.returns-in-Unsettled-clause-beside
returns-in-Unsettled-clause-beside g c = λ me first has learns.
    let store = g.F.FileStore.seen c.args.store.now in
    let after = g.F.FileStore.seen c.find_consumer.new.store in
    c.join.ensures.beside me first
    (unsettled_found c.args.schema.now c.args.consuming.now c.in_ok-found.found c.in-Unsettled.found first store after (rw c.in-Unsettled.is at c.standing_of.ensures)
    has c.in_ok-found.ensures.trace)
    (found_kept me c.args.schema.now c.args.consuming.now c.in_ok-found.found first store after learns c.in_ok-found.ensures.beside)
