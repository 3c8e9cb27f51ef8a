use Rattle.std.proofs.Common.{◌≡◌, drop}
use Rattle.serde_json.specs.View.{items_view}
use Rattle.pm_schema.specs.Stated.{all_in}
use Rattle.serde_json.specs.Find.{as_str}
use Rattle.pm_schema_file.proofs.Lists.{after}
use Rattle.pm_schema_file.proofs.shape.texts_in.Given as goal

abbrev pub invariant-loop-value : goal.invariant-loop-value
invariant-loop-value l =
    after l.texts.items (all_in as_str (items_view (drop l.value-index l.items))) ≡ all_in as_str (items_view l.items)
