use Rattle.std.proofs.Common.{◌↔◌, ℕ, List, Contains, subst}
use Rattle.pm_expire_paths.specs.Dropping.{dropping_of, Adds, DroppingView, HasOrLacks}
use Rattle.pm_expire_paths.proofs.DroppingLemmas.{adds, either}
use Rattle.pm_expire_paths.proofs.dropping.Dropping.add.Goals as goal

pub returns : goal.returns
returns c =
    let kept = c.self.inside.kept.items in
    let gone = c.self.inside.gone.items in
    let ordered = c.put_in_order.new.paths.items in
    let all = c.in_ok-gone.gone.items in
    subst (λ (d : DroppingView). Adds d c.args.paths.items (dropping_of ordered all)) c.self.view_is
    (adds kept gone c.args.paths.items ordered all c.in_ok-put_in_order.ensures.same
    (λ path. subst (λ (xs : List (List ℕ)). Contains all path ↔ HasOrLacks gone kept xs path) c.as_slice.ensures.value (c.in_ok-gone.ensures path))
    (either ordered))
