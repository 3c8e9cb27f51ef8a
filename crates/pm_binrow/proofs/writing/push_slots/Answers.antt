use Rattle.std.proofs.Common.{◌≡◌, ◌∷◌, ◌+◌, ◌<◌, length, drop, get_or, sym, ap, ◌∙◌, arith}
use Rattle.std.proofs.lemmas.List.{drop_more, get_or_read}
use Rattle.pm_values.specs.declared.value.Value.TheVariants.{Null}
use Rattle.pm_values.specs.declared.column.ColType.TheVariants.{Boolean}
use Rattle.pm_binrow.specs.Row.{tail}
use Rattle.pm_binrow.proofs.Pushes.{slot_pushed, slots_end, tail_counted}
use Rattle.pm_binrow.proofs.writing.push_slots.Goals as goal

pub loop-i-preserved : goal.loop-i-preserved
loop-i-preserved c =
    let value = c.index-values-i.result in
    let kind = get_or c.args.types.now c.loop-i.i Boolean in
    let within : c.loop-i.i < length c.args.values.now = omega arith in
    let here : get_or c.args.values.now c.loop-i.i Null ≡ value = sym (get_or_read c.args.values.now c.loop-i.i value within c.index-values-i.is Null) in
    let again : c.index-values-i-in-loop-i.result ≡ value =
    get_or_read c.args.values.now c.loop-i.i c.index-values-i-in-loop-i.result within c.index-values-i-in-loop-i.is Null ∙ here in
    let next : drop c.loop-i.i c.args.types.now ≡ kind ∷ drop (c.loop-i.i + 1) c.args.types.now = drop_more c.args.types.now c.loop-i.i Boolean c.loop-i-test.true in
    let first : drop c.loop-i.i c.args.values.now ≡ value ∷ drop (c.loop-i.i + 1) c.args.values.now =
    drop_more c.args.values.now c.loop-i.i Null within ∙ ap (λ v. v ∷ drop (c.loop-i.i + 1) c.args.values.now) here in
    let size : c.value_tail_size-offset.result ≡ length (tail value) = c.value_tail_size-offset.ensures.size ∙ ap (λ v. length (tail v)) again in
    record {
      counted = rw size (tail_counted c.loop-i.offset c.loop-i.i c.args.values.now value _ first c.loop-i.invariant.counted);
      written = rw (size, c.in_ok-push_slot.ensures)
          (slot_pushed c.loop-i.out.items c.loop-i.offset c.loop-i.i c.args.types.now c.args.values.now kind value _ next first c.loop-i.invariant.written);
    }

pub returns : goal.returns
returns c = slots_end c.loop-i.out.items c.loop-i.offset c.loop-i.i c.args.types.now c.args.values.now _ c.loop-i-test.false c.loop-i.invariant.written
