use Rattle.std.proofs.Common.{◌≡◌, ◌∙◌, ◌+◌, ◌-◌, ◌<◌, length, Some, arith}
use Rattle.std.specs.BTreeMap.{get_by}
use Rattle.std.specs.Cmp.Lexicographic.{slice_cmp}
use Rattle.std.specs.Ordering.{nat_cmp}
use Rattle.std.proofs.lemmas.Map.Text.{btree_map_updates_str}
use Rattle.pm_record.proofs.Loops.{one_earlier}
use Rattle.pm_record.proofs.index.index_map.Goals as goal

pub loop-left-preserved : goal.loop-left-preserved
loop-left-preserved c =
    let some = c.loop-left-test.true in
    let within = c.loop-left.invariant.within in
    let next : c.loop-left.left ≡ c.loop-left.left - 1 + 1 = omega arith in
    let lt : c.loop-left.left - 1 < length c.args.fields.now.items = omega arith in
    record {
      within = omega arith;
      found = λ name.
          btree_map_updates_str c.as_str.result.now c.loop-left.map c.insert.new.self (Some (c.loop-left.left - 1)) c.in_ok-insert.ensures.updates name
          ∙ one_earlier c.args.fields.now.items (c.loop-left.left - 1) c.loop-left.left c.index.result.now c.as_str.result.now name
          (get_by (λ k. slice_cmp nat_cmp name k.now) c.loop-left.map) next lt c.index.ensures c.as_str.ensures (c.loop-left.invariant.found name);
    }
