use Rattle.std.proofs.Common.{◌≡◌, rules, sym, subst}
use Rattle.pm_schema.specs.declared.schema.TableSchema.{TableSchema}
use Rattle.pm_read_table.specs.View.{HaveGroups}
use Rattle.pm_read_table.specs.View.{live_entries}
use Rattle.pm_read_table.proofs.AfterLemmas.{groups_live}
use Rattle.pm_read_table.proofs.after.view_of.Goals as goal

pub returns-in-Ok-group_levels-clause-groups : goal.returns-in-Ok-group_levels-clause-groups
returns-in-Ok-group_levels-clause-groups c =
    let view = c.view_with.result in
    let schema : view.schema ≡ c.args.sought.asked.schema = c.view_with.ensures.table.2 in
    let live : view.live.items ≡ live_entries c.args.kept.items = search rules in
    subst (λ (s : TableSchema). HaveGroups s view.live.items) (sym schema)
    (groups_live c.args.sought.asked.schema c.args.kept.items view.live.items c.requires.groups live)
