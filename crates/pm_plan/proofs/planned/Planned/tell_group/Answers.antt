use Rattle.std.proofs.Common.{refl, rules}
use Rattle.pm_plan.proofs.RewrittenLemmas.{told-none, told-some}
use Rattle.pm_plan.specs.declared.planned.Planned.{Planned}
use Rattle.pm_plan.proofs.planned.Planned.tell_group.Goals as goal

-- nothing is told
pub returns-in_default-clause-tells : goal.returns-in_default-clause-tells
returns-in_default-clause-tells c =
    let new : Planned = record c.args.self.now { names = c.write_log.new.names } in
    told-none c.args.self.now new c.args.told (search rules) refl (c.in_ok-file.ensures.names, search rules) refl refl

pub returns-clause-tells : goal.returns-clause-tells
returns-clause-tells c =
    let new : Planned = record c.args.self.now { names = c.write_log.new.names; files = c.push_back.new.self; changes = c.push.new.self } in
    told-some c.args.self.now new c.args.told c.in-Some.file (search rules) refl (c.in_ok-file.ensures.names, search rules) (search rules) (search rules)
