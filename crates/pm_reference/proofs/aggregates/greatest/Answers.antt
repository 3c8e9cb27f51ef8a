use Rattle.std.proofs.Common.{ap}
use Rattle.std.specs.List.{list_all}
use Rattle.std.specs.Option.{unwrap_or}
use Rattle.std.specs.Ordering.{is_le}
use Rattle.std.proofs.lemmas.Result.{IfOk-weaker}
use Rattle.pm_values.specs.Order.{value_cmp}
use Rattle.pm_values.specs.declared.value.Value.TheVariants.{Null}
use Rattle.pm_reference.proofs.TableLemmas.{find_here, find_later}
use Rattle.std.proofs.Common.{◌∙◌, sym}
use Rattle.pm_reference.proofs.aggregates.greatest.Goals as goal

-- the value is the first of this kind
pub returns-then-is_greatest : goal.returns-then-is_greatest
returns-then-is_greatest c =
    let values = c.args.values.now in
    IfOk-weaker c.copy.result _ _ (λ value is. is ∙ sym (ap (λ o. unwrap_or o Null) (find_here (λ value. list_all (λ other. is_le (value_cmp other value)) values) values c.loop-value.value-index c.value-item.result c.loop-value-test.true c.value-item.is c.if-is_greatest.ensures c.loop-value.invariant)))
    c.copy.ensures

-- the value isn't of this kind
pub loop-value-preserved : goal.loop-value-preserved
loop-value-preserved c =
    let values = c.args.values.now in
    find_later (λ value. list_all (λ other. is_le (value_cmp other value)) values) values c.loop-value.value-index c.value-item.result c.loop-value-test.true c.value-item.is c.if-is_greatest.ensures c.loop-value.invariant
