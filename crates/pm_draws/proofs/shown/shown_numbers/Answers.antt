use Rattle.std.proofs.Common.{◌∙◌, ap, refl, rules, tests}
use Rattle.std.specs.Prelude.{◌==◌}
use Rattle.std.specs.List.{flat_map}
use Rattle.std.proofs.lemmas.Iterator.Consumers.{YieldsList-end}
use Rattle.std.proofs.lemmas.Iterator.Splits.{YieldsList-from_slice_split}
use Rattle.pm_draws.specs.Shown.{numbers_at}
use Rattle.pm_draws.proofs.shown.shown_numbers.Goals as goal

-- all lines were read
pub returns : goal.returns
returns c =
    let all = YieldsList-end
    (YieldsList-from_slice_split {s = c.into_iter-line-iterator.result} _ (λ b. b == 10) c.args.text.now (search rules) (search rules) refl (λ x b q k. search (rules, tests)))
    c.loop-line.yielded _ c.loop-line.yielded_by _ _ c.in-None.is c.next.ensures.steps in
    c.loop-line.invariant ∙ ap (flat_map numbers_at) all.0
