use Rattle.std.proofs.Common.{map}
use Rattle.serde_json.specs.View.{view}
use Rattle.pm_rows.proofs.ReadLemmas.{items_in-as_array}
use Rattle.pm_rows.proofs.read.read_array.Goals as goal

pub returns-in-Some : goal.returns-in-Some
returns-in-Some c = rw c.as_slice.ensures.value (items_in-as_array (view c.args.json.now) (map view c.in-Some.items.now.items) c.in-Some.ensures)
