use Rattle.std.proofs.Common.{◌≡◌, drop}
use Rattle.serde_json.specs.View.{items_view}
use Rattle.pm_schema.specs.Stated.{all_in}
use Rattle.pm_schema.specs.ColumnType.{fields_views}
use Rattle.pm_schema.specs.Stated.{field_in}
use Rattle.pm_schema_file.proofs.Lists.{after}
use Rattle.pm_schema_file.proofs.shape.all_fields.Given as goal

abbrev pub invariant-loop-value : goal.invariant-loop-value
invariant-loop-value l =
    after (fields_views l.fields.items) (all_in field_in (items_view (drop l.value-index l.items))) ≡ all_in field_in (items_view l.items)
