use Rattle.std.proofs.Common.{◌≡◌, ◌++◌, ◌∷◌, [], ◌-◌, ◌+◌, ℕ, length, replicate, sym, ap, ◌∙◌, append_assoc, arith}
use Rattle.std.proofs.lemmas.List.{replicate_more}
use Rattle.pm_values.specs.declared.value.Value.TheVariants.{Null}
use Rattle.pm_values.specs.Order.{Values}
use Rattle.pm_binrow.proofs.Pushes.{filled_is}
use Rattle.pm_binrow.proofs.writing.filled.Goals as goal

pub loop-preserved : goal.loop-preserved
loop-preserved c =
    let n = c.loop.counter - length c.args.values.now in
    let next : c.loop.counter + 1 - length c.args.values.now ≡ n + 1 = omega arith in
    c.in_ok-push-2.ensures.items ∙ ap (λ (vs : Values). vs ++ Null ∷ []) c.loop.invariant
    ∙ append_assoc c.args.values.now (replicate n Null) (Null ∷ [])
    ∙ ap (λ (vs : Values). c.args.values.now ++ vs) (replicate_more n Null ∙ ap (λ (m : ℕ). replicate m Null) (sym next))

pub returns : goal.returns
returns c =
    let last : c.loop.counter ≡ c.args.columns = omega arith in
    c.loop.invariant ∙ ap (λ (m : ℕ). c.args.values.now ++ replicate (m - length c.args.values.now) Null) last
    ∙ filled_is c.args.columns c.args.values.now c.requires
