use Rattle.std.proofs.Common.{◌≡◌, take, map}
use Rattle.pm_avro_schema.specs.View.{view, field_view}
use Rattle.pm_avro_schema.proofs.kind.+copy.Given as goal

abbrev pub invariant-copied_fields-loop-field : goal.invariant-copied_fields-loop-field
invariant-copied_fields-loop-field l =
    map field_view l.copies.items ≡ map field_view (take l.field-index l.field-items)

abbrev pub invariant-copied_branches-loop-branch : goal.invariant-copied_branches-loop-branch
invariant-copied_branches-loop-branch l = map view l.copies.items ≡ map view (take l.branch-index l.branch-items)
