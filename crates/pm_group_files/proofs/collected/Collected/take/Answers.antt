use Rattle.std.proofs.Common.{Bool, sym, subst}
use Rattle.std.specs.Result.{OnOk}
use Rattle.pm_group_files.specs.Collected.{TakesWhere}
use Rattle.pm_group_files.proofs.collected.Collected.take.Goals as goal

pub returns-clause-takes : goal.returns-clause-takes
returns-clause-takes c =
    subst (λ (kept : Bool). OnOk c.take_rows.result (TakesWhere kept c.args.job.now c.args.bytes c.args.self.now c.take_rows.new.self)) (sym c.if-job.false)
    c.take_rows.ensures.takes
