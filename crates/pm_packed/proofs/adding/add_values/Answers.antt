use Rattle.std.proofs.Common.{◌≡◌, ℕ, suc, ◌+◌, List, [], ◌∷◌, ◌++◌, take, ap, sym, subst, ◌∙◌, append_assoc, arith}
use Rattle.std.proofs.Math.Seq.{take-suc}
use Rattle.pm_values.specs.declared.value.Value.{Value}
use Rattle.pm_packed.specs.Values.{AreCodeOf}
use Rattle.pm_packed.proofs.ValueLemmas.{more_code}
use Rattle.pm_packed.proofs.adding.add_values.Goals as goal

pub loop-value-preserved : goal.loop-value-preserved
loop-value-preserved c =
    let (before, is, are) = c.loop-value.invariant in
    let (code, more, reads) = c.in_ok-add_value.ensures in
    let values = c.args.values.now in
    let i = c.loop-value.value-index in
    let next : i + 1 ≡ suc i = omega arith in
    let longer : take (i + 1) values ≡ take i values ++ c.value-item.result ∷ [] =
    ap (λ (n : ℕ). take n values) next ∙ take-suc values i c.value-item.result c.loop-value-test.true
    ∙ ap (λ (v : Value). take i values ++ v ∷ []) (sym c.value-item.is) in (
      before ++ code,
      more ∙ ap (λ (bytes : List ℕ). bytes ++ code) is ∙ append_assoc c.args.out.now.items before code,
      subst (λ (vs : List Value). AreCodeOf vs (before ++ code)) (sym longer) (more_code (take i values) c.value-item.result before code are reads),
    )
