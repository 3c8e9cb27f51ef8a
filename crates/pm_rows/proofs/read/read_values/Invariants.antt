use Rattle.std.proofs.Common.{◌≡◌, map, take, drop}
use Rattle.serde_json.specs.View.{view}
use Rattle.pm_values.specs.Fits.{Fits}
use Rattle.pm_rows.specs.Reading.{values_at}
use Rattle.pm_rows.proofs.ReadLemmas.{prefixed}
use Rattle.pm_rows.proofs.read.read_values.Given as goal

abbrev pub invariant-loop-index : goal.invariant-loop-index
invariant-loop-index l = record {
  exact : prefixed l.values.items (values_at l.index (drop l.index l.columns) (map view (drop l.index l.items))) ≡ values_at 0 l.columns (map view l.items);
  fits : Fits (take l.index l.columns) l.values.items;
}
