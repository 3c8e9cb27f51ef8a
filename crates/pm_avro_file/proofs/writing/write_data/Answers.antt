use Rattle.std.proofs.Common.{◌≡◌, List, ℕ, ◌+◌, map, take, refl, sym, subst, ◌∙◌}
use Rattle.std.proofs.lemmas.List.{take_all}
use Rattle.pm_avro_schema.specs.View as types
use Rattle.pm_avro_data.specs.Datum.{view}
use Rattle.pm_avro_data.specs.HasType.{HasType}
use Rattle.pm_avro_data.specs.Writing.{encoding}
use Rattle.pm_avro_file.proofs.Writes.{AreWritten, all_at, more_written, all_read}
use Rattle.pm_avro_file.proofs.writing.write_data.Goals as goal

pub encode_to-requires-clause-of_type : goal.encode_to-requires-clause-of_type
encode_to-requires-clause-of_type c =
    all_at (HasType (types.view c.args.kind.now)) view c.deref-datum-items.result.now c.loop-datum.datum-index c.datum-item.result (rw (← c.deref-datum-items.ensures.value) at c.requires.of_type) c.loop-datum-test.true c.datum-item.is

pub loop-datum-preserved : goal.loop-datum-preserved
loop-datum-preserved c =
    let typed = all_at (HasType (types.view c.args.kind.now)) view c.deref-datum-items.result.now c.loop-datum.datum-index c.datum-item.result (rw (← c.deref-datum-items.ensures.value) at c.requires.of_type) c.loop-datum-test.true c.datum-item.is in
    subst (λ (x : List ℕ). AreWritten (types.view c.args.kind.now) (map view (take (c.loop-datum.datum-index + 1) c.deref-datum-items.result.now)) x) (sym c.in_ok-encode_to.ensures.bytes)
    (more_written (types.view c.args.kind.now) c.deref-datum-items.result.now c.loop-datum.datum-index c.datum-item.result c.loop-datum.content.items (encoding (view c.datum-item.result))
    c.requires.some typed c.loop-datum-test.true c.datum-item.is refl c.in_ok-encode_to.ensures.datum c.loop-datum.invariant)

pub returns-clause-data : goal.returns-clause-data
returns-clause-data c =
    let all : take c.loop-datum.datum-index c.deref-datum-items.result.now ≡ c.args.block.now.items = take_all c.loop-datum.datum-index c.deref-datum-items.result.now c.loop-datum-test.false ∙ c.deref-datum-items.ensures.value in
    all_read (types.view c.args.kind.now) (map view c.args.block.now.items) c.loop-datum.content.items
    (subst (λ (x : List _). AreWritten (types.view c.args.kind.now) (map view x) c.loop-datum.content.items) all c.loop-datum.invariant)
