use Rattle.std.proofs.Common.{sym}
use Rattle.pm_avro_schema.specs.View as types
use Rattle.pm_record.specs.Record.{lent}
use Rattle.pm_record.proofs.Values.{indexes_apart}
use Rattle.pm_record.proofs.selection.Selection.of.Goals as goal

pub invariant_of-result : goal.invariant_of-result
invariant_of-result c =
    indexes_apart (types.fields_view c.in-Some.fields.now.items) (lent c.args.names.now) c.in-Some-2.indexes.items c.requires
    (sym (rw c.in-Some-2.is at c.in_ok-indexes.ensures))
