use Rattle.std.proofs.Common.{◌∷◌}
use Rattle.std.specs.Result.{result_err}
use Rattle.std.proofs.lemmas.Result.{err_from_is_err_and}
use Rattle.pm_words.specs.declared.command.Command.TheVariants as commands
use Rattle.pm_command_generate.specs.Generate.{draft}
use Rattle.pm_command_generate.proofs.GoneLemmas.{goes_memory, goes_run, next_of}
use Rattle.pm_command_generate.proofs.steps.create.Goals as goal

pub returns-in_err-text-clause-goes : goal.returns-in_err-text-clause-goes
returns-in_err-text-clause-goes g c =
    λ left.
    let p = err_from_is_err_and c.from_residual.result c.from_residual.ensures.1 in
    rw (p.1, p.2) (goes_memory c.args.start.now ((commands.Create, draft) ∷ left) left c.args.turn.now c.args.turn.now (g.F.FileStore.seen c.args.store.now))

pub returns-in_err-out-clause-goes : goal.returns-in_err-out-clause-goes
returns-in_err-out-clause-goes g c =
    λ left.
    let p = err_from_is_err_and c.from_residual-in_err-out.result c.from_residual-in_err-out.ensures.1 in
    rw (p.1, p.2) (goes_memory c.args.start.now ((commands.Create, draft) ∷ left) left c.args.turn.now c.args.turn.now (g.F.FileStore.seen c.args.store.now))

pub returns-clause-goes : goal.returns-clause-goes
returns-clause-goes g c =
    λ left.
    let seen = g.F.FileStore.seen in
    let taken = c.inner_create-ended.new.out.taken in
    let run = rw (c.numbered-own.ensures, c.in_ok-text.ensures) at c.inner_create-ended.ensures.run in
    goes_run c.args.start.now (commands.Create, draft) left c.args.turn.now c.finish.new.turn (seen c.args.store.now) (seen c.inner_create-ended.new.store) taken
    (result_err c.inner_create-ended.result) (result_err c.finish.result) run c.finish.ensures

pub returns-clause-next : goal.returns-clause-next
returns-clause-next g c =
    next_of c.args.start.now c.args.turn.now c.finish.new.turn c.inner_create-ended.new.out.taken (result_err c.inner_create-ended.result) c.finish.result c.finish.ensures
