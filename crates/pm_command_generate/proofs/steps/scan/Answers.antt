use Rattle.std.proofs.Common.{[], ◌∷◌, None}
use Rattle.std.specs.Result.{result_err}
use Rattle.std.proofs.lemmas.Result.{err_from_is_err_and}
use Rattle.pm_words.specs.declared.command.Command.TheVariants as commands
use Rattle.pm_command_generate.proofs.GoneLemmas.{goes_memory, last_refused, last_run}
use Rattle.pm_command_generate.proofs.steps.scan.Goals as goal

pub returns-in_err-out-clause-goes : goal.returns-in_err-out-clause-goes
returns-in_err-out-clause-goes g c =
    let p = err_from_is_err_and c.from_residual.result c.from_residual.ensures.1 in
    rw (p.1, p.2)
    (goes_memory c.args.start.now ((commands.Scan None, []) ∷ []) [] c.args.turn.now c.args.turn.now (g.F.FileStore.seen c.args.store.now))

pub returns-in_err-finish-clause-goes : goal.returns-in_err-finish-clause-goes
returns-in_err-finish-clause-goes g c =
    let seen = g.F.FileStore.seen in
    let p = err_from_is_err_and c.from_residual-in_err-finish.result c.from_residual-in_err-finish.ensures.1 in
    let run = rw c.numbered-own.ensures at c.inner_scan-ended.ensures.run in
    let finishes = rw c.in_err-finish.was at c.finish.ensures in
    rw (p.1, p.2)
    (last_refused c.args.start.now c.args.turn.now c.finish.new.turn (seen c.args.store.now) (seen c.inner_scan-ended.new.store) c.inner_scan-ended.new.out.taken
    (result_err c.inner_scan-ended.result) c.in_err-finish.field-0.0 run finishes)

pub returns-clause-goes : goal.returns-clause-goes
returns-clause-goes g c =
    let seen = g.F.FileStore.seen in
    let run = rw c.numbered-own.ensures at c.inner_scan-ended.ensures.run in
    let finishes = rw c.in_ok-finish.was at c.finish.ensures in
    last_run c.args.start.now c.args.turn.now c.finish.new.turn (seen c.args.store.now) (seen c.inner_scan-ended.new.store) c.inner_scan-ended.new.out.taken
    (result_err c.inner_scan-ended.result) run finishes
