use Rattle.std.proofs.Common.{true}
use Rattle.std.proofs.lemmas.Result.{err_from_is_err_and}
use Rattle.pm_command_follow.proofs.KnownLemmas.{begun_with, table_beside}
use Rattle.pm_command_follow.proofs.PieceLemmas.{opened_with, table_shown}
use Rattle.pm_command_follow.proofs.follow.follow_with_table.Goals as goal

pub returns-in_err-print_table-clause-followed : goal.returns-in_err-print_table-clause-followed
returns-in_err-print_table-clause-followed g c = λ from first starts.
    let p = err_from_is_err_and c.from_residual.result c.from_residual.ensures.1 in
    rw (p.1, p.2)
    (table_shown c.args.schema.now from c.args.start c.in_err-print_table.field-0.0 (g.W.Sink.seen c.args.out.now) (g.W.Sink.seen c.print_table.new.out) first
    (g.F.FileStore.seen c.args.store.now) (g.F.FileStore.seen c.print_table.new.store) starts c.in_err-print_table.ensures.prints)

pub returns-clause-followed : goal.returns-clause-followed
returns-clause-followed g c = λ from first starts.
    let open_ = opened_with c.args.schema.now from c.args.start (g.W.Sink.seen c.args.out.now) (g.W.Sink.seen c.print_table.new.out) first
    (g.F.FileStore.seen c.args.store.now) (g.F.FileStore.seen c.print_table.new.store) starts c.in_ok-print_table.ensures.prints c.print_table.ensures.out_later in
    c.follow_on.ensures.followed from true open_.text (g.W.Sink.seen c.args.out.now) first open_.opens open_.took

pub returns-in_err-print_table-clause-beside : goal.returns-in_err-print_table-clause-beside
returns-in_err-print_table-clause-beside g c = λ from first starts learned.
    let p = err_from_is_err_and c.from_residual.result c.from_residual.ensures.1 in
    rw (p.1, p.2)
    (table_beside c.past_law.ensures c.pieces_law.ensures.first c.args.schema.now from c.args.start c.in_err-print_table.field-0.0 (g.W.Sink.seen c.args.out.now)
    (g.W.Sink.seen c.print_table.new.out) first (g.F.FileStore.seen c.args.store.now) (g.F.FileStore.seen c.print_table.new.store) starts learned
    c.in_err-print_table.ensures.prints c.in_err-print_table.ensures.beside)

pub returns-clause-beside : goal.returns-clause-beside
returns-clause-beside g c = λ from first starts learned.
    let out = g.W.Sink.seen c.args.out.now in
    let out_after = g.W.Sink.seen c.print_table.new.out in
    let store = g.F.FileStore.seen c.args.store.now in
    let after = g.F.FileStore.seen c.print_table.new.store in
    let open_ = opened_with c.args.schema.now from c.args.start out out_after first store after starts c.in_ok-print_table.ensures.prints c.print_table.ensures.out_later in
    c.follow_on.ensures.beside from true open_.text out first open_.opens
    (begun_with c.args.schema.now c.args.start out out_after first store after learned c.in_ok-print_table.ensures.beside)
