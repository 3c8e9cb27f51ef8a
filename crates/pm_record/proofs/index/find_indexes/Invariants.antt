use Rattle.std.proofs.Common.{◌≡◌, drop}
use Rattle.pm_avro_schema.specs.View as types
use Rattle.pm_record.specs.Record.{all_indexes, lent}
use Rattle.pm_record.proofs.Loops.{after_earlier}
use Rattle.pm_record.proofs.index.find_indexes.Given as goal

abbrev pub invariant-loop-name : goal.invariant-loop-name
invariant-loop-name l =
    after_earlier l.indexes.items (all_indexes (lent (drop l.name-index l.names)) (types.fields_view l.fields.items))
    ≡ all_indexes (lent l.names) (types.fields_view l.fields.items)
