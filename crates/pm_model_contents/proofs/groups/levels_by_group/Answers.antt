use Rattle.std.proofs.Common.{None, ap, sym, subst}
use Rattle.std.specs.BTreeMap.{get_by, is_at}
use Rattle.std.specs.List.Sorted.{IsStrictlySortedBy}
use Rattle.std.specs.Map.{lookup}
use Rattle.pm_values.specs.GroupOrder.{group_cmp}
use Rattle.pm_model_contents.specs.Groups.{HasRuns, grouped}
use Rattle.pm_model_contents.proofs.GroupLemmas.{done-more, keys-grouped, next-found}
use Rattle.pm_model_contents.proofs.groups.levels_by_group.Goals as goal

pub loop-group-init : goal.loop-group-init
loop-group-init c = record {
  joined = ap grouped c.into_iter-group-iterator.ensures.into_iter_gives.0;
  sorted = subst (IsStrictlySortedBy group_cmp) (sym (keys-grouped c.args.groups.entries)) c.into_iter-group-iterator.ensures.into_iter_gives.5;
  runs = λ g. subst (λ es. HasRuns None (lookup (is_at (group_cmp g)) es)) (sym c.new-levels.ensures.empty) tt;
  free = tt;
}

pub levels_of-requires : goal.levels_of-requires
levels_of-requires c =
    c.requires c.in-Some.group
    (next-found c.args.groups.entries c.loop-group.yielded c.loop-group.group-iterator (λ g. get_by (group_cmp g) c.loop-group.levels) c.loop-group.invariant
    c.in-Some.group c.in-Some.files c.next.new.self c.in-Some.ensures.steps)

pub loop-group-preserved-in_ok-insert : goal.loop-group-preserved-in_ok-insert
loop-group-preserved-in_ok-insert c =
    done-more c.args.groups.entries c.loop-group.yielded c.loop-group.group-iterator (λ g. get_by (group_cmp g) c.loop-group.levels) c.loop-group.invariant
    c.in-Some.group c.in-Some.files c.next.new.self c.in-Some.ensures.steps c.in_ok-own.own (λ g. get_by (group_cmp g) c.insert.new.self)
    c.in_ok-own.ensures.runs c.in_ok-own.ensures.disjoint c.in_ok-insert.ensures.updates.0

pub loop-group-preserved : goal.loop-group-preserved
loop-group-preserved c =
    done-more c.args.groups.entries c.loop-group.yielded c.loop-group.group-iterator (λ g. get_by (group_cmp g) c.loop-group.levels) c.loop-group.invariant
    c.in-Some.group c.in-Some.files c.next.new.self c.in-Some.ensures.steps c.in_ok-own.own (λ g. get_by (group_cmp g) c.insert.new.self)
    c.in_ok-own.ensures.runs c.in_ok-own.ensures.disjoint c.in_ok-insert.ensures.updates.0
