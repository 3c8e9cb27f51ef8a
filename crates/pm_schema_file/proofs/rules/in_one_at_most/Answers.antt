use Rattle.std.proofs.Common.{nat_le, sym, ap, ◌∙◌}
use Rattle.std.proofs.lemmas.List.Folds.{list_all_at}
use Rattle.pm_values.specs.declared.column.Column.{Column}
use Rattle.pm_schema.specs.Rules.{groups_with}
use Rattle.pm_schema_file.proofs.rules.in_one_at_most.Goals as goal

pub returns-then-not-in_one_list : goal.returns-then-not-in_one_list
returns-then-not-in_one_list c =
    let groups = c.args.groups.now in
    let here = ap (λ n. nat_le (groups_with groups n) 1) (sym c.as_str.ensures) ∙ sym c.in_one_list.ensures ∙ c.if-not-in_one_list.true in
    let there = ap (λ (k : Column). nat_le (groups_with groups k.name) 1) (sym c.column-item.is) ∙ here in
    sym (list_all_at (λ k. nat_le (groups_with groups k.name) 1) c.args.columns.now c.loop-column.column-index c.column-item.result c.loop-column-test.true there)
