use Rattle.std.proofs.Common.{◌≡◌, ◌≤◌, length, drop, List, ℕ}
use Rattle.std.specs.BTreeMap.{get_by}
use Rattle.std.specs.Cmp.Lexicographic.{slice_cmp}
use Rattle.std.specs.Ordering.{nat_cmp}
use Rattle.pm_avro_schema.specs.View as types
use Rattle.pm_record.specs.Record.{index_in}
use Rattle.pm_record.proofs.Loops.{moved}
use Rattle.pm_record.proofs.index.index_map.Given as goal

abbrev pub invariant-loop-left : goal.invariant-loop-left
invariant-loop-left l = record {
  within : l.left ≤ length l.fields.items;
  found : (name : List ℕ) → get_by (λ k. slice_cmp nat_cmp name k.now) l.map
      ≡ moved l.left (index_in name (types.fields_view (drop l.left l.fields.items)));
}

abbrev pub decreases-loop-left : goal.decreases-loop-left
decreases-loop-left l = l.left
