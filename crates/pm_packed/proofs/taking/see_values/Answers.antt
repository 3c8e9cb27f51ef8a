use Rattle.std.proofs.Common.{◌≡◌, ◌+◌, ◌-◌, List, [], ◌∷◌, ◌++◌, map, ap, ◌∙◌, arith}
use Rattle.std.proofs.lemmas.List.{map-append}
use Rattle.pm_row_slots.specs.Seen.{seen_value}
use Rattle.pm_values.specs.declared.value.Value.{Value}
use Rattle.pm_packed.specs.Values.{raw_value, values_in}
use Rattle.pm_packed.proofs.ValueLemmas.{taken_more, taken_rest}
use Rattle.pm_packed.proofs.taking.see_values.Goals as goal

pub loop-preserved : goal.loop-preserved
loop-preserved c =
    let left = c.args.count - c.loop.counter in
    let fewer = c.args.count - (c.loop.counter + 1) in
    let test = c.loop-test.true in
    let one : fewer + 1 ≡ left = omega arith in
    let others = c.take_raw.result.1.now in
    let v = raw_value c.take_raw.result.0 in
    let before = map seen_value c.loop.into.items in
    let pushed : map seen_value c.push.new.self.items ≡ before ++ v ∷ [] =
    ap (map seen_value) c.in_ok-push.ensures.items ∙ map-append seen_value c.loop.into.items (c.in-Some.seen ∷ [])
    ∙ ap (λ (x : Value). before ++ x ∷ []) c.in-Some.ensures in
    record {
      within = omega arith;
      values =
          ap (λ (vs : List Value). vs ++ (values_in fewer others).0) pushed
          ∙ taken_more fewer left c.loop.rest.now others v before one c.take_raw.ensures
          ∙ c.loop.invariant.values;
      rest = taken_rest fewer left c.loop.rest.now others v one c.take_raw.ensures ∙ c.loop.invariant.rest;
    }
