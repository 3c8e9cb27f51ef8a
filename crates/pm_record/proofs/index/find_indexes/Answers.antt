use Rattle.std.proofs.Common.{◌∙◌, [], get_or, List, ℕ}
use Rattle.std.specs.Borrow.{Bor}
use Rattle.pm_avro_schema.specs.View as types
use Rattle.pm_record.specs.Record.{all_indexes, lent}
use Rattle.pm_record.proofs.Loops.{found_next, found_none}
use Rattle.pm_record.proofs.index.find_indexes.Goals as goal

pub returns-in-None : goal.returns-in-None
returns-in-None c =
    let none : Bor (List ℕ) = record { ref_ptr = (0, 0); now = [] } in
    found_none c.args.names.now c.loop-name.name-index none (types.fields_view c.args.fields.now.items) c.loop-name.indexes.items
    (all_indexes (lent c.args.names.now) (types.fields_view c.args.fields.now.items)) c.loop-name-test.true c.loop-name.invariant
    (c.in-None.ensures.value ∙ c.in_ok-map.ensures (get_or c.args.names.now c.loop-name.name-index none).now)

pub loop-name-preserved : goal.loop-name-preserved
loop-name-preserved c =
    let none : Bor (List ℕ) = record { ref_ptr = (0, 0); now = [] } in
    rw c.in_ok-push-in-Some.ensures.items (found_next c.args.names.now c.loop-name.name-index none (types.fields_view c.args.fields.now.items) c.loop-name.indexes.items
    (all_indexes (lent c.args.names.now) (types.fields_view c.args.fields.now.items)) c.loop-name-test.true c.loop-name.invariant c.in-Some.index.now
    (c.in-Some.ensures.value ∙ c.in_ok-map.ensures (get_or c.args.names.now c.loop-name.name-index none).now))
