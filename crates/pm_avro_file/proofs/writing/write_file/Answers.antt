use Rattle.std.proofs.Common.{◌≡◌, List, ℕ, [], ◌∷◌, ◌++◌, ◌+◌, map, take, sym, ap, subst}
use Rattle.std.specs.List.{AllByRecursion}
use Rattle.std.proofs.lemmas.List.{take_all}
use Rattle.pm_avro_schema.specs.View as types
use Rattle.pm_avro_data.specs.Datum.{Data, view}
use Rattle.pm_avro_data.specs.HasType.{HasType}
use Rattle.pm_avro_file.specs.Views.{blocks_view}
use Rattle.pm_avro_file.specs.Begun.{IsBegun}
use Rattle.pm_avro_file.proofs.Writes.{begun, goes_on, whole, all_at, view_more}
use Rattle.pm_avro_file.proofs.writing.write_file.Goals as goal

pub loop-block-init : goal.loop-block-init
loop-block-init c = begun (types.view c.args.kind.now) c.args.marker c.in_ok-out.out.items c.in_ok-out.ensures.bytes c.in_ok-out.ensures.header

pub push_block-requires-clause-of_type : goal.push_block-requires-clause-of_type
push_block-requires-clause-of_type c =
    all_at (AllByRecursion (HasType (types.view c.args.kind.now))) (λ v. map view v.items) c.args.blocks.now c.loop-block.block-index c.block-item.result c.requires.of_type c.loop-block-test.true c.block-item.is

pub loop-block-preserved : goal.loop-block-preserved
loop-block-preserved c =
    let t = types.view c.args.kind.now in
    let ds = map view c.block-item.result.items in
    let blocks = blocks_view (take c.loop-block.block-index c.args.blocks.now) in
    let more : blocks_view (take (c.loop-block.block-index + 1) c.args.blocks.now) ≡ blocks ++ ds ∷ [] =
    view_more (λ v. map view v.items) c.args.blocks.now c.loop-block.block-index c.block-item.result c.loop-block-test.true c.block-item.is in
    subst (λ (x : List (List Data)). IsBegun t c.args.marker x c.push_block.new.out.items) (sym more)
    (subst (λ (x : List ℕ). IsBegun t c.args.marker (blocks ++ ds ∷ []) x) (sym c.in_ok-push_block.ensures.bytes)
    (goes_on t c.args.marker blocks ds c.loop-block.out.items c.in_ok-push_block.ensures.block c.loop-block.invariant))

pub returns-clause-file : goal.returns-clause-file
returns-clause-file c =
    let all : blocks_view (take c.loop-block.block-index c.args.blocks.now) ≡ blocks_view c.args.blocks.now = ap blocks_view (take_all c.loop-block.block-index c.args.blocks.now c.loop-block-test.false) in
    whole (types.view c.args.kind.now) c.args.marker (blocks_view c.args.blocks.now) c.loop-block.out.items
    (subst (λ (x : List (List Data)). IsBegun (types.view c.args.kind.now) c.args.marker x c.loop-block.out.items) all c.loop-block.invariant)
