use Rattle.std.proofs.Common.{◌++◌, length, sym, ap, ◌∙◌, rules}
use Rattle.std.proofs.lemmas.List.{append-nil}
use Rattle.std.proofs.lemmas.Slice.Zip.{zip_end}
use Rattle.pm_values.specs.Order.{Values}
use Rattle.pm_manifest.proofs.ShapeLemmas.{rest_end}
use Rattle.pm_manifest_shape.proofs.shape.rest_values.Goals as goal

pub returns : goal.returns
returns c =
    let n = zip_end c.args.places.now c.args.key.now c.loop-place.yielded c.into_iter-place-iterator.result c.loop-place.place-iterator c.next.new.self c.next.result (search rules) (search rules) c.loop-place.yielded_by c.in-None.is c.next.ensures.steps in
    let none = rest_end c.args.places.now c.args.key.now (length c.loop-place.yielded) n in
    sym (append-nil c.loop-place.values.items) ∙ ap (λ (vs : Values). c.loop-place.values.items ++ vs) (sym none) ∙ c.loop-place.invariant
