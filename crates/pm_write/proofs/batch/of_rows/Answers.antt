use Rattle.std.proofs.Common.{◌≡◌, ◌≤◌, sym, subst, ap, ◌∙◌}
use Rattle.std.specs.BTreeMap.{get_by}
use Rattle.pm_values.specs.GroupOrder.{group_cmp}
use Rattle.pm_values.specs.declared.group.Group.{Group}
use Rattle.pm_schema.specs.declared.schema.TableSchema.{TableSchema}
use Rattle.pm_engines.specs.TableEngine.{schema_of}
use Rattle.pm_group_rows.specs.Cut.{cut_of}
use Rattle.pm_write.proofs.GroupLemmas.{already, batch-of, if-own, ordered-held}
use Rattle.pm_write.proofs.batch.of_rows.Goals as goal

pub cut_by_group-requires : goal.cut_by_group-requires
cut_by_group-requires c = record {
  some = subst (λ (s : TableSchema). 1 ≤ s.options.bucket) (sym c.schema.ensures) c.requires.some;
  counted = already 0 c.args.rows c.requires.numbers;
}

pub held_groups-requires : goal.held_groups-requires
held_groups-requires c = λ g.
    let s = schema_of c.args.engine.now in
    if-own s c.args.rows c.requires.taken g (get_by (group_cmp g) c.in_ok-own.own) (c.in_ok-own.ensures g ∙ ap (λ (t : TableSchema). cut_of t g c.args.rows) c.schema.ensures)

pub invariant_of-result : goal.invariant_of-result
invariant_of-result c =
    let s = schema_of c.args.engine.now in
    record { each = c.in_ok-groups.ensures.held; ordered = ordered-held s c.in_ok-own.own.entries c.in_ok-groups.groups.items c.in_ok-groups.ensures.rows c.in_ok-groups.ensures.ordered }

pub returns : goal.returns
returns c =
    let s = schema_of c.args.engine.now in
    batch-of s c.args.rows c.in_ok-own.own.entries c.in_ok-groups.groups.items (λ g. c.in_ok-own.ensures g ∙ ap (λ (t : TableSchema). cut_of t g c.args.rows) c.schema.ensures)
    c.in_ok-groups.ensures.rows c.in_ok-groups.ensures.ordered
