use Rattle.pm_avro_schema.proofs.Facts.{declared, none_declared, readable}
use Rattle.pm_avro_schema.proofs.reading.parse.Goals as goal

pub returns-clause-declared : goal.returns-clause-declared
returns-clause-declared c = declared c.args.text.now c.read_text.result c.read_text.ensures

pub returns-clause-refused : goal.returns-clause-refused
returns-clause-refused c = none_declared c.args.text.now c.read_text.result c.read_text.ensures

pub returns-clause-readable : goal.returns-clause-readable
returns-clause-readable c = readable c.args.text.now c.read_text.result c.read_text.ensures
