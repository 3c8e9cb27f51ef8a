use Rattle.std.proofs.lemmas.Result.{err_from_is_err_and}
use Rattle.pm_register.specs.Registrar.{registering}
use Rattle.pm_command_consume.proofs.OpenLemmas.{bare_opened, listing_refused, registered, registered_below, registering_refused, start_refused, table_opened, table_refused, unsettled_so}
use Rattle.pm_command_consume.proofs.PieceLemmas.{has_joined, has_started, listing_shown, opened_with, opened_without, registering_shown, start_shown, table_shown}
use Rattle.pm_command_consume.proofs.opening.join.Goals as goal

pub returns-in_err-latest-clause-opened : goal.returns-in_err-latest-clause-opened
returns-in_err-latest-clause-opened g c = λ first finds.
    let p = err_from_is_err_and c.from_residual.result c.from_residual.ensures.1 in
    rw (p.1, p.2)
    (listing_shown c.args.schema.now c.args.consuming.now c.args.found c.in_err-latest.field-0.0 (g.W.Sink.seen c.args.out.now) first (g.F.FileStore.seen c.args.store.now)
    (g.F.FileStore.seen c.read_latest.new.store) finds c.in_err-latest.ensures.trace)

pub returns-in_err-start-clause-opened : goal.returns-in_err-start-clause-opened
returns-in_err-start-clause-opened g c = λ first finds.
    let p = err_from_is_err_and c.from_residual-in_err-start.result c.from_residual-in_err-start.ensures.1 in
    rw (p.1, p.2)
    (start_shown c.args.schema.now c.args.consuming.now c.args.found c.in_ok-latest.latest c.in_err-start.field-0.0 (g.W.Sink.seen c.args.out.now) first
    (g.F.FileStore.seen c.args.store.now) (g.F.FileStore.seen c.read_latest.new.store) finds c.in_ok-latest.ensures.trace c.in_err-start.ensures.above)

pub returns-in_err-place-clause-opened : goal.returns-in_err-place-clause-opened
returns-in_err-place-clause-opened g c = λ first finds.
    let p = err_from_is_err_and c.from_residual-in_err-place.result c.from_residual-in_err-place.ensures.1 in
    rw (p.1, p.2)
    (registering_shown c.args.schema.now c.args.consuming.now c.args.found c.in_ok-start.start c.in_err-place.field-0.0 (g.W.Sink.seen c.args.out.now) first
    (g.F.FileStore.seen c.read_latest.new.store) (g.F.FileStore.seen c.register_at.new.store)
    (has_started c.args.schema.now c.args.consuming.now c.args.found c.in_ok-latest.latest c.in_ok-start.start first (g.F.FileStore.seen c.args.store.now)
    (g.F.FileStore.seen c.read_latest.new.store) finds c.in_ok-latest.ensures.trace c.in_ok-start.ensures.start) c.in_err-place.ensures.trace)

pub returns-in_err-latest-clause-beside : goal.returns-in_err-latest-clause-beside
returns-in_err-latest-clause-beside g c = λ me first finds learns.
    let p = err_from_is_err_and c.from_residual.result c.from_residual.ensures.1 in
    rw (p.1, p.2)
    (listing_refused me c.args.schema.now c.args.consuming.now c.in_err-latest.field-0.0 (g.W.Sink.seen c.args.out.now) first
    (g.F.FileStore.seen c.args.store.now) (g.F.FileStore.seen c.read_latest.new.store) learns c.in_err-latest.ensures.trace c.in_err-latest.ensures.refused)

pub returns-in_err-start-clause-beside : goal.returns-in_err-start-clause-beside
returns-in_err-start-clause-beside g c = λ me first finds learns.
    let p = err_from_is_err_and c.from_residual-in_err-start.result c.from_residual-in_err-start.ensures.1 in
    rw (p.1, p.2)
    (start_refused me c.args.schema.now c.args.consuming.now c.in_ok-latest.latest c.in_err-start.field-0.0
    (g.W.Sink.seen c.args.out.now) first (g.F.FileStore.seen c.args.store.now) (g.F.FileStore.seen c.read_latest.new.store) learns c.in_ok-latest.ensures.beside
    c.in_err-start.ensures.above)

pub returns-in_err-place-clause-beside : goal.returns-in_err-place-clause-beside
returns-in_err-place-clause-beside g c = λ me first finds learns.
    let p = err_from_is_err_and c.from_residual-in_err-place.result c.from_residual-in_err-place.ensures.1 in
    let seen = g.F.FileStore.seen in
    rw (p.1, p.2)
    (registering_refused me c.args.schema.now c.args.consuming.now (registering c.args.consuming.now.name c.args.found c.in_ok-start.start) c.in_err-place.field-0.0
    (g.W.Sink.seen c.args.out.now) first (seen c.read_latest.new.store) (seen c.register_at.new.store) c.in_err-place.ensures.trace
    (registered me c.args.schema.now c.args.consuming.now c.args.found c.in_ok-latest.latest c.in_ok-start.start first (seen c.args.store.now)
    (seen c.read_latest.new.store) (seen c.register_at.new.store) finds learns c.in_ok-latest.ensures.beside c.in_ok-start.ensures.start.1
    (c.register_at.ensures.beside me)))

pub returns-then-not-consuming-clause-opened : goal.returns-then-not-consuming-clause-opened
returns-then-not-consuming-clause-opened g c = λ first finds.
    let seen = g.F.FileStore.seen in
    opened_without c.args.schema.now c.args.consuming.now c.in_ok-start.start c.in_ok-place.place (g.W.Sink.seen c.args.out.now) first
    (seen c.register_at.new.store) c.if-not-consuming.true
    (has_joined c.args.schema.now c.args.consuming.now c.args.found c.in_ok-start.start c.in_ok-place.place first (seen c.read_latest.new.store)
    (seen c.register_at.new.store)
    (has_started c.args.schema.now c.args.consuming.now c.args.found c.in_ok-latest.latest c.in_ok-start.start first (seen c.args.store.now)
    (seen c.read_latest.new.store) finds c.in_ok-latest.ensures.trace c.in_ok-start.ensures.start) c.in_ok-place.ensures.trace)

pub returns-then-not-consuming-clause-beside : goal.returns-then-not-consuming-clause-beside
returns-then-not-consuming-clause-beside g c = λ me first finds learns.
    let seen = g.F.FileStore.seen in
    bare_opened me c.args.schema.now c.args.consuming.now c.in_ok-start.start c.in_ok-place.place (g.W.Sink.seen c.args.out.now) first
    (seen c.register_at.new.store) c.if-not-consuming.true
    (has_joined c.args.schema.now c.args.consuming.now c.args.found c.in_ok-start.start c.in_ok-place.place first (seen c.read_latest.new.store)
    (seen c.register_at.new.store)
    (has_started c.args.schema.now c.args.consuming.now c.args.found c.in_ok-latest.latest c.in_ok-start.start first (seen c.args.store.now)
    (seen c.read_latest.new.store) finds c.in_ok-latest.ensures.trace c.in_ok-start.ensures.start) c.in_ok-place.ensures.trace)
    (registered me c.args.schema.now c.args.consuming.now c.args.found c.in_ok-latest.latest c.in_ok-start.start first (seen c.args.store.now)
    (seen c.read_latest.new.store) (seen c.register_at.new.store) finds learns c.in_ok-latest.ensures.beside c.in_ok-start.ensures.start.1
    (c.register_at.ensures.beside me))

pub returns-in_err-print_table-clause-opened : goal.returns-in_err-print_table-clause-opened
returns-in_err-print_table-clause-opened g c = λ first finds.
    let p = err_from_is_err_and c.from_residual-in_err-print_table.result c.from_residual-in_err-print_table.ensures.1 in
    let seen = g.F.FileStore.seen in
    rw (p.1, p.2)
    (table_shown c.args.schema.now c.args.consuming.now c.in_ok-start.start c.in_ok-place.place c.in_err-print_table.field-0.0 (g.W.Sink.seen c.args.out.now)
    (g.W.Sink.seen c.print_table.new.out) first (seen c.register_at.new.store) (seen c.print_table.new.store) c.if-not-consuming.false
    (has_joined c.args.schema.now c.args.consuming.now c.args.found c.in_ok-start.start c.in_ok-place.place first (seen c.read_latest.new.store)
    (seen c.register_at.new.store)
    (has_started c.args.schema.now c.args.consuming.now c.args.found c.in_ok-latest.latest c.in_ok-start.start first (seen c.args.store.now)
    (seen c.read_latest.new.store) finds c.in_ok-latest.ensures.trace c.in_ok-start.ensures.start) c.in_ok-place.ensures.trace)
    c.in_err-print_table.ensures.prints)

pub returns-in_err-print_table-clause-beside : goal.returns-in_err-print_table-clause-beside
returns-in_err-print_table-clause-beside g c = λ me first finds learns.
    let p = err_from_is_err_and c.from_residual-in_err-print_table.result c.from_residual-in_err-print_table.ensures.1 in
    let seen = g.F.FileStore.seen in
    rw (p.1, p.2)
    (table_refused me c.args.schema.now c.args.consuming.now c.past_law.ensures c.pieces_law.ensures.first c.in_ok-start.start c.in_ok-place.place c.in_err-print_table.field-0.0
    (g.W.Sink.seen c.args.out.now) (g.W.Sink.seen c.print_table.new.out) first (seen c.register_at.new.store) (seen c.print_table.new.store)
    c.if-not-consuming.false (unsettled_so c.args.schema.now c.args.consuming.now c.args.found first (seen c.args.store.now) finds)
    (has_joined c.args.schema.now c.args.consuming.now c.args.found c.in_ok-start.start c.in_ok-place.place first (seen c.read_latest.new.store)
    (seen c.register_at.new.store)
    (has_started c.args.schema.now c.args.consuming.now c.args.found c.in_ok-latest.latest c.in_ok-start.start first (seen c.args.store.now)
    (seen c.read_latest.new.store) finds c.in_ok-latest.ensures.trace c.in_ok-start.ensures.start) c.in_ok-place.ensures.trace)
    (registered_below me c.args.schema.now c.args.consuming.now c.args.found c.in_ok-latest.latest c.in_ok-start.start first (seen c.args.store.now)
    (seen c.read_latest.new.store) (seen c.register_at.new.store) finds learns c.in_ok-latest.ensures.beside c.in_ok-start.ensures.start.1
    (c.register_at.ensures.beside me)) c.in_err-print_table.ensures.prints c.in_err-print_table.ensures.beside)

pub returns-clause-opened : goal.returns-clause-opened
returns-clause-opened g c = λ first finds.
    let seen = g.F.FileStore.seen in
    opened_with c.args.schema.now c.args.consuming.now c.in_ok-start.start c.in_ok-place.place (g.W.Sink.seen c.args.out.now) (g.W.Sink.seen c.print_table.new.out)
    first (seen c.register_at.new.store) (seen c.print_table.new.store) c.if-not-consuming.false
    (has_joined c.args.schema.now c.args.consuming.now c.args.found c.in_ok-start.start c.in_ok-place.place first (seen c.read_latest.new.store)
    (seen c.register_at.new.store)
    (has_started c.args.schema.now c.args.consuming.now c.args.found c.in_ok-latest.latest c.in_ok-start.start first (seen c.args.store.now)
    (seen c.read_latest.new.store) finds c.in_ok-latest.ensures.trace c.in_ok-start.ensures.start) c.in_ok-place.ensures.trace)
    c.in_ok-print_table.ensures.prints c.print_table.ensures.out_later

pub returns-clause-beside : goal.returns-clause-beside
returns-clause-beside g c = λ me first finds learns.
    let seen = g.F.FileStore.seen in
    table_opened me c.args.schema.now c.args.consuming.now c.in_ok-start.start c.in_ok-place.place (g.W.Sink.seen c.args.out.now) (g.W.Sink.seen c.print_table.new.out)
    first (seen c.register_at.new.store) (seen c.print_table.new.store) c.if-not-consuming.false
    (has_joined c.args.schema.now c.args.consuming.now c.args.found c.in_ok-start.start c.in_ok-place.place first (seen c.read_latest.new.store)
    (seen c.register_at.new.store)
    (has_started c.args.schema.now c.args.consuming.now c.args.found c.in_ok-latest.latest c.in_ok-start.start first (seen c.args.store.now)
    (seen c.read_latest.new.store) finds c.in_ok-latest.ensures.trace c.in_ok-start.ensures.start) c.in_ok-place.ensures.trace)
    (registered me c.args.schema.now c.args.consuming.now c.args.found c.in_ok-latest.latest c.in_ok-start.start first (seen c.args.store.now)
    (seen c.read_latest.new.store) (seen c.register_at.new.store) finds learns c.in_ok-latest.ensures.beside c.in_ok-start.ensures.start.1
    (c.register_at.ensures.beside me)) c.in_ok-print_table.ensures.prints c.in_ok-print_table.ensures.beside
