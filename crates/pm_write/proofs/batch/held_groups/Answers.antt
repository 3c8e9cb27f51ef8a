use Rattle.std.proofs.Common.{[], ◌∷◌, ◌++◌, All, ap, sym, subst, ◌∙◌, append_assoc}
use Rattle.std.specs.List.{AllByRecursion, AllZip}
use Rattle.std.proofs.lemmas.List.Elements.{All-nil, All-push}
use Rattle.pm_values.specs.declared.group.Group.{Group}
use Rattle.pm_engine.specs.Covers.{Run}
use Rattle.pm_engines.specs.TableEngine.{schema_of}
use Rattle.pm_write.specs.Held.{IsHeld, IsHeldOf, IsOwn}
use Rattle.pm_write.proofs.GroupLemmas.{each_found, each_of, zip-push}
use Rattle.pm_write.proofs.batch.held_groups.Goals as goal

pub loop-group-init : goal.loop-group-init
loop-group-init c =
    let s = schema_of c.args.engine.now in
    let es = c.args.groups.entries in
    let ordered = c.into_iter-group-iterator.ensures.into_iter_gives.5 in
    let same = c.into_iter-group-iterator.ensures.into_iter_gives.0 in record {
      joined = same;
      left = subst (AllByRecursion (λ (e : Group × Run). IsOwn s e.1)) (sym same) (each_of (IsOwn s) es es c.requires (each_found es ordered));
      rows = subst (λ hs. AllZip (IsHeldOf s) [] hs) (sym c.new-held.ensures.items) tt;
      kept = subst (All IsHeld) (sym c.new-held.ensures.items) (All-nil IsHeld);
      ordered = ordered;
    }

pub loop-group-preserved : goal.loop-group-preserved
loop-group-preserved c =
    let s = schema_of c.args.engine.now in
    let e : Group × Run = (c.in-Some.group, c.in-Some.rows) in
    let before = c.loop-group.invariant in record {
      joined = append_assoc c.loop-group.yielded (e ∷ []) c.next.new.self ∙ ap (λ es. c.loop-group.yielded ++ es) (sym c.in-Some.ensures.steps) ∙ before.joined;
      left = (subst (AllByRecursion (λ (e : Group × Run). IsOwn s e.1)) c.in-Some.ensures.steps before.left).1;
      rows = subst (λ hs. AllZip (IsHeldOf s) (c.loop-group.yielded ++ e ∷ []) hs) (sym c.in_ok-push.ensures.items)
          (zip-push (IsHeldOf s) c.loop-group.yielded c.loop-group.held.items e c.in_ok-held_rows.field-0 before.rows c.in_ok-held_rows.ensures.rows);
      kept = subst (All IsHeld) (sym c.in_ok-push.ensures.items) (All-push IsHeld c.loop-group.held.items c.in_ok-held_rows.field-0 before.kept c.in_ok-held_rows.ensures.held);
      ordered = before.ordered;
    }

pub held_rows-requires : goal.held_rows-requires
held_rows-requires c =
    let s = schema_of c.args.engine.now in
    (subst (AllByRecursion (λ (e : Group × Run). IsOwn s e.1)) c.in-Some.ensures.steps c.loop-group.invariant.left).0
