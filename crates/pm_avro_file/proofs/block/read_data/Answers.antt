use Rattle.std.proofs.Common.{◌++◌, [], ◌∷◌, ◌≡◌, map, length, sym, ap, arith, subst, List}
use Rattle.std.proofs.lemmas.List.{length-map, length-append, map_push}
use Rattle.std.proofs.lemmas.Grind.{common_steps}
use Rattle.pm_avro_schema.specs.View as types
use Rattle.pm_avro_data.specs.Datum.{Data, view}
use Rattle.pm_avro_data.specs.IsDatum.{IsDatum, AreItems}
use Rattle.pm_avro_file.proofs.Blocks.{data_missing, data_left}
use Rattle.pm_avro_file.proofs.Items.{items_push}
use Rattle.pm_avro_file.proofs.block.read_data.Goals as goal

pub returns-in_default : goal.returns-in_default
returns-in_default c =
    data_missing (types.view c.args.kind.now) c.args.count (map view c.loop.data.items) c.args.bytes.now c.loop.rest.now c.loop.invariant.read
    (omega (arith, length-map c.loop.data.items view, c.loop.invariant.many)) (rw c.in_default.is at c.in_ok-datum.ensures)

pub loop-preserved : goal.loop-preserved
loop-preserved c =
    let added : map view c.push.new.self.items ≡ map view c.loop.data.items ++ view c.in-Some.datum ∷ [] = rw c.in_ok-push.ensures.items (map_push view c.loop.data.items c.in-Some.datum) in
    record {
      many = omega (arith, c.loop.invariant.many, ap length c.in_ok-push.ensures.items, length-append c.loop.data.items (c.in-Some.datum ∷ []));
      read = subst (λ (ds : List Data). AreItems (IsDatum (types.view c.args.kind.now)) ds c.args.bytes.now c.in-Some.after.now) (sym added)
          (items_push (IsDatum (types.view c.args.kind.now)) (map view c.loop.data.items) (view c.in-Some.datum) c.args.bytes.now c.loop.rest.now c.in-Some.after.now c.loop.invariant.read (rw c.in-Some.is at c.in_ok-datum.ensures));
    }

pub returns-else-is_empty : goal.returns-else-is_empty
returns-else-is_empty c =
    data_left (types.view c.args.kind.now) c.args.count (map view c.loop.data.items) c.args.bytes.now c.loop.rest.now c.loop.invariant.read
    (omega (arith, length-map c.loop.data.items view, c.loop.invariant.many)) (grind (arith, common_steps))
