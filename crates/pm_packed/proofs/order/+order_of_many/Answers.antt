use Rattle.std.proofs.Common.{◌≡◌, ◌+◌, ap, sym, ◌∙◌, arith}
use Rattle.std.specs.Ordering.{ordering_then}
use Rattle.std.specs.declared.cmp.Ordering.{Ordering}
use Rattle.std.specs.declared.cmp.Ordering.TheVariants.{Equal}
use Rattle.pm_values.specs.Order.{key_cmp, value_cmp}
use Rattle.pm_packed.specs.Values.{raw_value, values_in}
use Rattle.pm_packed.proofs.ValueLemmas.{order_first, other_first}
use Rattle.pm_packed.proofs.order.+order_of_many.Goals as goal

pub returns-in-Equal : goal.returns-in-Equal
returns-in-Equal t c =
    let fewer = c.in-Some-Some.ensures in
    let fewer' = c.in-Some-Some.ensures' in
    let others = c.take_raw.result.1.now in
    let rest = c.take_raw-in-Some-Some.result.1.now in
    let v = raw_value c.take_raw.result.0 in
    let w = raw_value c.take_raw-in-Some-Some.result.0 in
    let one : c.in-Some-Some.a_count + 1 ≡ c.args.a_count = omega (arith, fewer.0, fewer.1) in
    let another : c.in-Some-Some.b_count + 1 ≡ c.args.b_count = omega (arith, fewer'.0, fewer'.1) in
    let same : Equal ≡ value_cmp v w = sym c.in-Equal.is ∙ c.order_of_two.ensures in
    c.order_of_many.ensures
    ∙ ap (λ (o : Ordering). ordering_then o (key_cmp (values_in c.in-Some-Some.a_count others).0 (values_in c.in-Some-Some.b_count rest).0)) same
    ∙ sym (order_first c.in-Some-Some.a_count c.args.a_count c.in-Some-Some.b_count c.args.b_count c.args.a.now c.args.b.now others rest v w one another c.take_raw.ensures c.take_raw-in-Some-Some.ensures)

pub returns-in_default : goal.returns-in_default
returns-in_default t c =
    let fewer = c.in-Some-Some.ensures in
    let fewer' = c.in-Some-Some.ensures' in
    let others = c.take_raw.result.1.now in
    let rest = c.take_raw-in-Some-Some.result.1.now in
    let v = raw_value c.take_raw.result.0 in
    let w = raw_value c.take_raw-in-Some-Some.result.0 in
    let one : c.in-Some-Some.a_count + 1 ≡ c.args.a_count = omega (arith, fewer.0, fewer.1) in
    let another : c.in-Some-Some.b_count + 1 ≡ c.args.b_count = omega (arith, fewer'.0, fewer'.1) in
    c.order_of_two.ensures
    ∙ sym (other_first (value_cmp v w) _ (λ e. c.in_default.not-Equal (c.order_of_two.ensures ∙ e)))
    ∙ sym (order_first c.in-Some-Some.a_count c.args.a_count c.in-Some-Some.b_count c.args.b_count c.args.a.now c.args.b.now others rest v w one another c.take_raw.ensures c.take_raw-in-Some-Some.ensures)
