use Rattle.std.proofs.Common.{subst, sym, arith, ap, ◌+◌, length-append}
use Rattle.std.specs.Vec.Iter.{into_iter_items}
use Rattle.pm_model_history.specs.Merge.{value_at}
use Rattle.pm_aggregate.specs.Aggregation.{AreLifted, IsLifted}
use Rattle.pm_aggregate.proofs.RowLemmas.{each-all, each-more, next-at, next-left}
use Rattle.pm_aggregate.proofs.aggregation.lifted_row.Goals as goal

-- one value more
pub loop-function-preserved : goal.loop-function-preserved
loop-function-preserved c =
    let inv = c.loop-function.invariant in
    let items = c.in_ok-push.ensures.items in
    let here = next-at c.args.row (into_iter_items c.loop-function.left) c.next_value.result c.loop-function.function-index inv.rest c.next_value.ensures.value in
    rw items record {
      size = rw length-append (ap (λ n. n + 1) inv.size);
      rest = next-left c.args.row (into_iter_items c.loop-function.left) (into_iter_items c.next_value.new.left) c.loop-function.function-index inv.rest c.next_value.ensures.left;
      each = each-more (λ i f v. IsLifted c.args.kind f (value_at c.args.row i) v) c.args.functions.now c.loop-function.values.items c.in_ok-lifted.field-0 c.loop-function.function-index c.function-item.result
          c.function-item.is inv.size inv.each
          (subst (λ v. IsLifted c.args.kind c.function-item.result v c.in_ok-lifted.field-0) here c.in_ok-lifted.ensures);
    }

-- there is one for each
pub returns : goal.returns
returns c =
    let inv = c.loop-function.invariant in
    subst (AreLifted c.args.functions.now c.args.kind c.args.row) (sym c.new.ensures) (record {
      size = omega (arith, inv.size);
      each = each-all (λ i f. IsLifted c.args.kind f (value_at c.args.row i) (value_at c.loop-function.values.items i)) c.args.functions.now c.loop-function.function-index (omega arith) inv.each;
    })
