use Rattle.std.proofs.Common.{subst, sym, arith, ap, ◌+◌, length-append}
use Rattle.std.specs.Vec.Iter.{into_iter_items}
use Rattle.pm_model_history.specs.Merge.{value_at}
use Rattle.pm_aggregate.specs.Aggregation.{AreCombined, IsCombined}
use Rattle.pm_aggregate.proofs.RowLemmas.{each-all, each-more, next-at, next-left}
use Rattle.pm_aggregate.proofs.aggregation.combined_row.Goals as goal

-- one value more
pub loop-function-preserved : goal.loop-function-preserved
loop-function-preserved c =
    let inv = c.loop-function.invariant in
    let index = c.loop-function.function-index in
    let items = c.in_ok-push.ensures.items in
    let before = next-at c.args.older (into_iter_items c.loop-function.older_left) c.next_value-before.result index inv.older c.next_value-before.ensures.value in
    let after = next-at c.args.newer (into_iter_items c.loop-function.newer_left) c.next_value-after.result index inv.newer c.next_value-after.ensures.value in
    rw items record {
      size = rw length-append (ap (λ n. n + 1) inv.size);
      older = next-left c.args.older (into_iter_items c.loop-function.older_left) (into_iter_items c.next_value-before.new.left) index inv.older c.next_value-before.ensures.left;
      newer = next-left c.args.newer (into_iter_items c.loop-function.newer_left) (into_iter_items c.next_value-after.new.left) index inv.newer c.next_value-after.ensures.left;
      each = each-more (λ i f v. IsCombined f (value_at c.args.older i) (value_at c.args.newer i) v) c.args.functions.now c.loop-function.values.items c.in_ok-combined.field-0 index c.function-item.result
          c.function-item.is inv.size inv.each
          (subst (λ v. IsCombined c.function-item.result v (value_at c.args.newer index) c.in_ok-combined.field-0) before
          (subst (λ v. IsCombined c.function-item.result c.next_value-before.result v c.in_ok-combined.field-0) after c.in_ok-combined.ensures));
    }

-- there is one for each
pub returns : goal.returns
returns c =
    let inv = c.loop-function.invariant in
    subst (AreCombined c.args.functions.now c.args.older c.args.newer) (sym c.new.ensures) (record {
      size = omega (arith, inv.size);
      each = each-all (λ i f. IsCombined f (value_at c.args.older i) (value_at c.args.newer i) (value_at c.loop-function.values.items i)) c.args.functions.now c.loop-function.function-index (omega arith) inv.each;
    })
