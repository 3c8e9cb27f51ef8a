use Rattle.std.proofs.Common.{subst, sym, arith, ap, ◌+◌, ◌∙◌, get_or, length, length-append, slice_get}
use Rattle.std.proofs.lemmas.List.{get_or_default, length-map}
use Rattle.std.proofs.lemmas.Option.{slice_get-map}
use Rattle.std.specs.Option.{option_map}
use Rattle.std.specs.Vec.Iter.{into_iter_items}
use Rattle.pm_model_history.specs.Merge.{value_at}
use Rattle.pm_aggregate.proofs.RowLemmas.{each-all, each-more, next-at, next-left}
use Rattle.pm_partial.specs.PartialUpdate.{AreCombined, IsFrom, side_of}
use Rattle.pm_partial.specs.declared.update.Side.TheVariants.{Older}
use Rattle.pm_partial.proofs.partial_update.combined_row.Goals as goal

-- one value more
pub loop-side-preserved : goal.loop-side-preserved
loop-side-preserved c =
    let inv = c.loop-side.invariant in
    let index = c.loop-side.side-index in
    let side = get_or c.deref-side-items.result.now index Older in
    let items = c.in_ok-push.ensures.items in
    let sides = c.deref-side-items.result.now in
    let before = next-at c.args.older (into_iter_items c.loop-side.older_left) c.next_value-before.result index inv.older c.next_value-before.ensures.value in
    let after = next-at c.args.newer (into_iter_items c.loop-side.newer_left) c.next_value-after.result index inv.newer c.next_value-after.ensures.value in
    rw items record {
      size = rw length-append (ap (λ n. n + 1) inv.size);
      older = next-left c.args.older (into_iter_items c.loop-side.older_left) (into_iter_items c.next_value-before.new.left) index inv.older c.next_value-before.ensures.left;
      newer = next-left c.args.newer (into_iter_items c.loop-side.newer_left) (into_iter_items c.next_value-after.new.left) index inv.newer c.next_value-after.ensures.left;
      each = each-more (λ i p v. IsFrom p (value_at c.args.older i) (value_at c.args.newer i) v) sides c.loop-side.values.items c.in_ok-combined.field-0 index side
          (get_or_default sides index Older _ c.loop-side-test.true) inv.size inv.each
          (subst (λ v. IsFrom side v (value_at c.args.newer index) c.in_ok-combined.field-0) before
          (subst (λ v. IsFrom side c.next_value-before.result v c.in_ok-combined.field-0) after c.in_ok-combined.ensures));
    }

-- there is one for each
pub returns : goal.returns
returns c =
    let inv = c.loop-side.invariant in
    let updates = c.args.updates.now in
    let side = side_of c.args.older c.args.newer in
    let sides = c.deref-side-items.result.now in
    let are = c.deref-side-items.ensures.value ∙ c.in_ok-sides.ensures in
    let stored = c.loop-side.values.items in
    let all = each-all (λ i p. IsFrom p (value_at c.args.older i) (value_at c.args.newer i) (value_at stored i)) sides c.loop-side.side-index (omega arith) inv.each in
    subst (AreCombined updates c.args.older c.args.newer) (sym c.new.ensures) (record {
      size = omega (arith, inv.size, ap length are ∙ length-map updates side);
      each = λ i u at. all i (side u) (ap (λ ps. slice_get ps i) are ∙ slice_get-map side updates i ∙ ap (option_map side) at);
    })
