use Rattle.std.proofs.Common.{◌-◌, length}
use Rattle.pm_avro_schema.specs.View as types
use Rattle.pm_avro_file.proofs.Parts.{datum_begins}
use Rattle.pm_avro_file.proofs.part.read_datum.Goals as goal

pub returns-in-Err-Bad : goal.returns-in-Err-Bad
returns-in-Err-Bad c = λ y rest h.
    let none = rw c.in-Err-Bad.field-0-is at c.in-Err-Bad.ensures.bad in
    none.1 y (length c.args.bytes.now - length rest) (datum_begins (types.view c.args.kind.now) y c.args.bytes.now rest h)
