use Rattle.std.proofs.Common.{◌≡◌, ◌+◌, ◌-◌, List, [], ◌∷◌, ◌++◌, ap, ◌∙◌, arith}
use Rattle.pm_values.specs.declared.value.Value.{Value}
use Rattle.pm_packed.specs.Values.{raw_value, values_in}
use Rattle.pm_packed.proofs.ValueLemmas.{taken_more, taken_rest}
use Rattle.pm_packed.proofs.taking.take_values.Goals as goal

pub loop-preserved : goal.loop-preserved
loop-preserved c =
    let left = c.args.count - c.loop.counter in
    let fewer = c.args.count - (c.loop.counter + 1) in
    let test = c.loop-test.true in
    let one : fewer + 1 ≡ left = omega arith in
    let others = c.take_raw.result.1.now in
    let v = raw_value c.take_raw.result.0 in
    let is : c.in_ok-copied.field-0 ≡ v = c.in_ok-copied.ensures ∙ c.in-Some.ensures in
    record {
      within = omega arith;
      values =
          ap (λ (vs : List Value). vs ++ (values_in fewer others).0) (c.in_ok-push.ensures.items ∙ ap (λ (x : Value). c.loop.into.items ++ x ∷ []) is)
          ∙ taken_more fewer left c.loop.rest.now others v c.loop.into.items one c.take_raw.ensures
          ∙ c.loop.invariant.values;
      rest = taken_rest fewer left c.loop.rest.now others v one c.take_raw.ensures ∙ c.loop.invariant.rest;
    }
