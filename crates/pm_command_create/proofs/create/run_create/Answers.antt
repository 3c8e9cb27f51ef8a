use Rattle.std.proofs.Common.{SFits, rules, w64}
use Rattle.std.specs.Result.{result_err}
use Rattle.std.proofs.Math.Facts.{to_z-of_z}
use Rattle.std.proofs.lemmas.Result.{err_from_is_err_and}
use Rattle.pm_command.specs.Outside.{outside}
use Rattle.pm_command_create.proofs.CreateLaws.{nothing_made, draft_refused, draft_made}
use Rattle.pm_command_create.proofs.create.run_create.Goals as goal

pub returns-in_err-origin-clause-history : goal.returns-in_err-origin-clause-history
returns-in_err-origin-clause-history g c =
    let p = err_from_is_err_and c.from_residual.result c.from_residual.ensures.1 in
    rw (p.1, p.2)
    (nothing_made c.args.start.now (g.S.Source.seen c.args.input.now) (g.W.Sink.seen c.args.out.now)
    (g.F.FileStore.seen c.args.store.now))

pub returns-in_err-schema-clause-history : goal.returns-in_err-schema-clause-history
returns-in_err-schema-clause-history g c =
    let fits : SFits w64 c.args.start.now.now_millis = search rules in
    let p = err_from_is_err_and c.from_residual-in_err-schema.result c.from_residual-in_err-schema.ensures.1 in
    rw (p.1, p.2)
    (draft_refused c.args.start.now c.in_ok-origin.origin (g.S.Source.seen c.args.input.now)
    (g.S.Source.seen c.read_draft_input.new.input) (g.W.Sink.seen c.args.out.now) (g.F.FileStore.seen c.args.store.now)
    c.in_err-schema.field-0.0 c.in_ok-origin.ensures
    (rw (to_z-of_z fits) at c.in_err-schema.ensures.answers))

pub returns-clause-history : goal.returns-clause-history
returns-clause-history g c =
    let fits : SFits w64 c.args.start.now.now_millis = search rules in
    draft_made c.args.start.now c.in_ok-origin.origin c.in_ok-schema.schema
    (outside (g.S.Source.seen c.args.input.now) (g.W.Sink.seen c.args.out.now) (g.F.FileStore.seen c.args.store.now))
    (outside (g.S.Source.seen c.read_draft_input.new.input) (g.W.Sink.seen c.make_table.new.out)
    (g.F.FileStore.seen c.make_table.new.store))
    (result_err c.make_table.result) c.in_ok-origin.ensures
    (rw (to_z-of_z fits) at c.in_ok-schema.ensures.answers) c.make_table.ensures.made
