use Rattle.std.proofs.Common.{◌≡◌, ◌++◌, ◌∷◌, [], List, rules, ap, append_assoc, subst, sym, ◌∙◌}
use Rattle.std.specs.Vec.Iter.{into_iter_items}
use Rattle.pm_values.specs.declared.group.Group.{Group}
use Rattle.pm_values.specs.declared.record.Change.{Change}
use Rattle.pm_plan.specs.Planned.{FitTold, TellsGroup}
use Rattle.pm_plan.proofs.RewrittenLemmas.{told-fits, told-push, told-without}
use Rattle.pm_plan.proofs.planned.Planned.tell.Goals as goal

-- the group's folder has a path
pub tell_group-requires-clause-fits : goal.tell_group-requires-clause-fits
tell_group-requires-clause-fits c =
    let steps : into_iter_items c.loop-told.told-iterator ≡ c.in-Some.told ∷ into_iter_items c.next.new.self = search rules in
    (subst (FitTold c.loop-told.planned.schema) steps c.loop-told.invariant.fit).0

-- one more
pub loop-told-preserved : goal.loop-told-preserved
loop-told-preserved c =
    let steps : into_iter_items c.loop-told.told-iterator ≡ c.in-Some.told ∷ into_iter_items c.next.new.self = search rules in
    let tells : TellsGroup c.loop-told.planned c.in-Some.told c.tell_group.new.self = search rules in
    record {
      parts = append_assoc c.loop-told.yielded (c.in-Some.told ∷ []) (into_iter_items c.next.new.self)
          ∙ ap (λ (logs : List (Group × List Change)). c.loop-told.yielded ++ logs) (sym steps) ∙ c.loop-told.invariant.parts;
      wrote = told-push c.args.self c.loop-told.planned c.tell_group.new.self c.loop-told.yielded c.in-Some.told c.loop-told.invariant.wrote tells;
      none = told-without c.loop-told.planned c.tell_group.new.self c.in-Some.told tells c.loop-told.invariant.none;
      fit = told-fits c.loop-told.planned c.tell_group.new.self c.in-Some.told (into_iter_items c.next.new.self) tells
          (subst (FitTold c.loop-told.planned.schema) steps c.loop-told.invariant.fit).1;
      room = search rules;
    }
