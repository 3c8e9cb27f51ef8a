use Rattle.std.proofs.Common.{◌≡◌, None, Some, map, sym, ap, ◌∙◌}
use Rattle.std.specs.List.{list_any}
use Rattle.std.specs.Map.Iter.{deref_pair}
use Rattle.std.proofs.lemmas.List.{map-append}
use Rattle.pm_store.specs.Files.{name_after}
use Rattle.pm_store.specs.Names.{leads_to}
use Rattle.pm_store.proofs.NameLaws.{name_gathered, name_passed}
use Rattle.pm_store.proofs.names.gathered.Goals as goal

pub loop-path-preserved-in_ok-insert : goal.loop-path-preserved-in_ok-insert
loop-path-preserved-in_ok-insert c =
    let path = c.in-Some.path.now in
    let prefix = c.args.prefix.now in
    let leads : name_after prefix path ≡ Some c.in_ok-from_str.field-0 =
    ap (name_after prefix) (sym c.as_str.ensures) ∙ sym c.in-Some-name_after.ensures ∙ ap Some (sym c.in_ok-from_str.ensures) in
    λ q.
    name_gathered prefix path c.in_ok-from_str.field-0 q (map deref_pair c.loop-path.yielded) c.in-Some.field-0-1.now _ _ leads
    (c.in_ok-insert.ensures.updates.0 q) (c.loop-path.invariant q)
    ∙ ap (list_any (λ e. leads_to prefix q e.0)) (sym (map-append deref_pair c.loop-path.yielded _))

pub loop-path-preserved : goal.loop-path-preserved
loop-path-preserved c =
    let path = c.in-Some.path.now in
    let prefix = c.args.prefix.now in
    let none : name_after prefix path ≡ None = ap (name_after prefix) (sym c.as_str.ensures) ∙ sym c.in_default.ensures in
    λ q.
    name_passed prefix path q (map deref_pair c.loop-path.yielded) c.in-Some.field-0-1.now _ none (c.loop-path.invariant q)
    ∙ ap (list_any (λ e. leads_to prefix q e.0)) (sym (map-append deref_pair c.loop-path.yielded _))
