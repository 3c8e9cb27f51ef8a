use Rattle.std.proofs.Common.{◌≡◌, get_or, map}
use Rattle.pm_avro_data.specs.Datum.{view}
use Rattle.pm_record.specs.Record.{at_indexes}
use Rattle.pm_record.proofs.Taking.{taken_next}
use Rattle.pm_record.proofs.selection.take_values.Goals as goal

pub loop-index-preserved : goal.loop-index-preserved
loop-index-preserved c =
    let here : c.replace-value.result ≡ get_or c.loop-index.left.items (get_or c.deref-index-items.result.now c.loop-index.index-index 0) c.replace-value.result =
    rw (← c.replace-value.ensures.value) at c.index_mut.ensures.value in
    let next = taken_next c.deref-index-items.result.now c.loop-index.index-index c.loop-index.left.items c.replace-value.result c.replace-value.new.dest
    c.loop-index.taken.items (at_indexes c.deref-index-items.result.now (map view c.args.values.items)) c.loop-index-test.true here
    c.loop-index.invariant.apart c.loop-index.invariant.below c.loop-index.invariant.taken in
    record { apart = next.0; below = next.1; taken = rw c.in_ok-push.ensures.items next.2 }
