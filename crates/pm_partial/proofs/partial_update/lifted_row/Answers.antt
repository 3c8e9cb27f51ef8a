use Rattle.std.proofs.Common.{subst, sym, arith, ap, ◌+◌, get_or, length-append, map, ◌∙◌}
use Rattle.std.proofs.lemmas.List.{get_or_default}
use Rattle.std.specs.Vec.Iter.{into_iter_items}
use Rattle.pm_model_history.specs.ColumnValue.{is_null}
use Rattle.pm_model_history.specs.Merge.{value_at}
use Rattle.pm_aggregate.proofs.RowLemmas.{each-all, each-more, next-at, next-left}
use Rattle.pm_partial.specs.PartialUpdate.{AreLifted, IsLifted}
use Rattle.pm_partial.specs.declared.update.Update.TheVariants.{Key}
use Rattle.pm_partial.proofs.partial_update.lifted_row.Goals as goal

-- one value more
pub loop-index-preserved : goal.loop-index-preserved
loop-index-preserved c =
    let inv = c.loop-index.invariant in
    let index = c.loop-index.index in
    let update = get_or c.args.updates.now index Key in
    let items = c.in_ok-push.ensures.items in
    let here = next-at c.args.row (into_iter_items c.loop-index.left) c.next_value-value.result index inv.rest c.next_value-value.ensures.value in
    let nulls = c.deref.ensures.value ∙ c.in_ok-nulls.ensures ∙ ap (map is_null) c.values.ensures in
    rw items record {
      size = rw length-append (ap (λ n. n + 1) inv.size);
      rest = next-left c.args.row (into_iter_items c.loop-index.left) (into_iter_items c.next_value-value.new.left) index inv.rest c.next_value-value.ensures.left;
      each = each-more (λ i u v. IsLifted u c.args.kind (map is_null c.args.row) i (value_at c.args.row i) v) c.args.updates.now c.loop-index.values.items c.in_ok-lifted.field-0 index update
          (get_or_default c.args.updates.now index Key _ c.loop-index-test.true) inv.size inv.each
          (subst (λ v. IsLifted update c.args.kind (map is_null c.args.row) index v c.in_ok-lifted.field-0) here
          (subst (λ ns. IsLifted update c.args.kind ns index c.next_value-value.result c.in_ok-lifted.field-0) nulls c.in_ok-lifted.ensures));
    }

-- there is one for each
pub returns : goal.returns
returns c =
    let inv = c.loop-index.invariant in
    subst (AreLifted c.args.updates.now (c.args.kind, c.args.row)) (sym c.new.ensures) (record {
      size = omega (arith, inv.size);
      each = each-all (λ i u. IsLifted u c.args.kind (map is_null c.args.row) i (value_at c.args.row i) (value_at c.loop-index.values.items i)) c.args.updates.now c.loop-index.index (omega arith) inv.each;
    })
