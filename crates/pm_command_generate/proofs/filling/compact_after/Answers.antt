use Rattle.std.proofs.Common.{◌++◌, None, subst, sym}
use Rattle.std.specs.Result.{result_err}
use Rattle.pm_command_generate.specs.Generate.{Goes}
use Rattle.pm_command_generate.proofs.GoneLemmas.{compactions_none, compactions_some, goes_none}
use Rattle.pm_command_generate.proofs.filling.compact_after.Goals as goal

pub returns-then-count-eq0-clause-goes : goal.returns-then-count-eq0-clause-goes
returns-then-count-eq0-clause-goes g c =
    λ left.
    let seen = g.F.FileStore.seen in
    subst (λ asked. Goes c.args.start.now (asked ++ left) left c.args.turn.now c.compact.new.turn (seen c.args.store.now) (seen c.compact.new.store) (result_err c.compact.result))
    (sym (compactions_some c.args.count c.if-count-eq0.true)) (c.compact.ensures.goes left)

pub returns-else-count-eq0-clause-goes : goal.returns-else-count-eq0-clause-goes
returns-else-count-eq0-clause-goes g c =
    λ left.
    let seen = g.F.FileStore.seen in
    subst (λ asked. Goes c.args.start.now (asked ++ left) left c.args.turn.now c.args.turn.now (seen c.args.store.now) (seen c.args.store.now) None)
    (sym (compactions_none c.args.count c.if-count-eq0.false)) (goes_none c.args.start.now left c.args.turn.now (seen c.args.store.now))
