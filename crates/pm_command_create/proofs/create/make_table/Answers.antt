use Rattle.std.specs.Result.{result_err}
use Rattle.std.proofs.lemmas.Result.{err_from_is_err_and}
use Rattle.pm_command.specs.Outside.{actor}
use Rattle.pm_create.specs.Creator.{new_table}
use Rattle.pm_command_create.proofs.CreateLaws.{not_made, made_refused, made_printed}
use Rattle.pm_command_create.proofs.create.make_table.Goals as goal

pub returns-in_err-creator-clause-made : goal.returns-in_err-creator-clause-made
returns-in_err-creator-clause-made g c =
    let p = err_from_is_err_and c.from_residual.result c.from_residual.ensures.1 in
    rw (p.1, p.2)
    (not_made (new_table (actor c.args.start.now) c.args.schema) (g.W.Sink.seen c.args.out.now) (g.F.FileStore.seen c.args.store.now))

pub returns-in_err-create_table-clause-made : goal.returns-in_err-create_table-clause-made
returns-in_err-create_table-clause-made g c =
    let p = err_from_is_err_and c.from_residual-in_err-create_table.result c.from_residual-in_err-create_table.ensures.1 in
    rw (p.1, p.2)
    (made_refused (actor c.args.start.now) c.args.schema c.in_ok-creator.creator (g.W.Sink.seen c.args.out.now)
    (g.F.FileStore.seen c.args.store.now) (g.F.FileStore.seen c.create_table.new.store) c.in_err-create_table.field-0.0
    c.in_ok-creator.ensures.is_new c.in_err-create_table.ensures.trace c.in_err-create_table.ensures.history)

pub returns-clause-made : goal.returns-clause-made
returns-clause-made g c =
    made_printed (actor c.args.start.now) c.args.schema c.in_ok-creator.creator (g.W.Sink.seen c.args.out.now)
    (g.W.Sink.seen c.print_created.new.out) (g.F.FileStore.seen c.args.store.now) (g.F.FileStore.seen c.create_table.new.store)
    (result_err c.print_created.result) c.in_ok-creator.ensures.is_new c.in_ok-create_table.ensures.trace
    c.in_ok-create_table.ensures.history c.print_created.ensures.prints
