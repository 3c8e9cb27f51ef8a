use Rattle.pm_schema.proofs.LawLemmas.{one_schema, schema_of-SchemaOf, SchemaOf-schema_of}
use Rattle.pm_schema.proofs.laws.schema_law.Goals as goal

pub returns-clause-exact : goal.returns-clause-exact
returns-clause-exact c = λ path text s. (schema_of-SchemaOf path text s, SchemaOf-schema_of path text s)

pub returns-clause-one : goal.returns-clause-one
returns-clause-one c = λ path text s t is was. one_schema path text s t is was
