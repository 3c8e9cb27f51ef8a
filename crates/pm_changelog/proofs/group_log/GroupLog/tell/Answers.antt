use Rattle.std.proofs.Common.{List, sym, subst}
use Rattle.pm_values.specs.declared.record.Change.{Change}
use Rattle.pm_values.specs.declared.record.Stamped.{Stamped}
use Rattle.pm_changelog.specs.GroupLog.{IsNext}
use Rattle.pm_changelog.proofs.TellLemmas.{of-log-told}
use Rattle.pm_changelog.proofs.group_log.GroupLog.tell.Goals as goal

-- whether there was memory or not, it is a log
pub invariant_of-self : goal.invariant_of-self
invariant_of-self c =
    let change : Stamped = record { key = c.args.key; seq = 0; kind = c.args.kind; row = c.args.row } in
    let next = subst (λ (log : List Change). IsNext log c.args.key) (sym c.self.view_is) c.requires.next in
    of-log-told c.push.result c.self.inside.rows c.push.new.self change c.push.ensures.added c.push.ensures.kept c.self.invariant next
