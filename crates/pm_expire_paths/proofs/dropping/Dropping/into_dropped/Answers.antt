use Rattle.std.proofs.Common.{◌↔◌, ℕ, List, [], Contains, subst}
use Rattle.pm_expire_paths.specs.Dropping.{AreDropped, DroppingView, HasOrLacks}
use Rattle.pm_expire_paths.proofs.DroppingLemmas.{dropped}
use Rattle.pm_expire_paths.proofs.dropping.Dropping.into_dropped.Goals as goal

pub returns : goal.returns
returns c =
    let kept = c.self.inside.kept.items in
    let gone = c.self.inside.gone.items in
    let ordered = c.put_in_order.new.paths.items in
    let all = c.in_ok-dropped.dropped.items in
    subst (λ (d : DroppingView). AreDropped d ordered) c.self.view_is
    (dropped kept gone all ordered c.in_ok-put_in_order.ensures.order
    (λ path. subst (λ (xs : List (List ℕ)). Contains all path ↔ HasOrLacks [] gone xs path) c.as_slice.ensures.value
    (subst (λ (xs : List (List ℕ)). Contains all path ↔ HasOrLacks xs gone c.as_slice.result.now path) c.new.ensures.items
    (c.in_ok-dropped.ensures path)))
    c.in_ok-put_in_order.ensures.same)
