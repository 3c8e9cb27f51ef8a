use Rattle.pm_avro_schema.proofs.Facts.{TypeOf-parsed_type, parsed_type-TypeOf, IsReadable-TypeOf}
use Rattle.pm_avro_schema.proofs.laws.reading_law.Goals as goal

pub returns-clause-exact : goal.returns-clause-exact
returns-clause-exact c = λ schema t. (TypeOf-parsed_type schema t, parsed_type-TypeOf schema t)

pub returns-clause-readable : goal.returns-clause-readable
returns-clause-readable c = IsReadable-TypeOf
