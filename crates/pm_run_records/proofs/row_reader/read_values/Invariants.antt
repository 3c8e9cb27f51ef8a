use Rattle.std.proofs.Common.{◌≡◌, map, drop}
use Rattle.std.specs.Vec.Iter.{into_iter_items}
use Rattle.pm_avro_data.specs.Datum.{view}
use Rattle.pm_run.specs.Row.{values_in}
use Rattle.pm_run_records.proofs.TakingLemmas.{prefixed}
use Rattle.pm_run_records.proofs.row_reader.read_values.Given as goal

-- the values so far, and what is read of those that are left
abbrev pub invariant-loop-slot : goal.invariant-loop-slot
invariant-loop-slot l = prefixed l.values.items (values_in (drop l.slot-index l.slots) (map view (into_iter_items l.left)))
    ≡ values_in l.slots (map view (into_iter_items l.fn.left))
