-- What a table's engine is seen as: its schema; and which schemas have one.
use Rattle.std.specs.Prelude.{◌≡◌, true}
use Rattle.pm_options.specs.declared.kinds.EngineKind.{EngineKind}
use Rattle.pm_options.specs.declared.kinds.EngineKind.TheVariants as kinds
use Rattle.pm_schema.specs.Rules.{differ, names_of}
use Rattle.pm_schema.specs.declared.schema.TableSchema.{TableSchema}
use Rattle.pm_aggregate.specs.Aggregation.{CanAggregate}
use Rattle.pm_partial.specs.PartialUpdate.{CanUpdate}
use Rattle.pm_engines.specs.declared.table_engine.TableEngine.{TableEngine}
use Rattle.pm_engines.specs.declared.table_engine.TableEngine.TheVariants as engines

-- the schema whose engine it is
abbrev pub schema_of : TableEngine → TableSchema
schema_of (engines.Deduplicate engine) = engine.schema
schema_of (engines.PartialUpdate engine) = engine.schema
schema_of (engines.Aggregation engine) = engine.schema
schema_of (engines.FirstRow engine) = engine.schema

-- what an engine asks of a schema that names it
abbrev pub Serves : EngineKind → TableSchema → Type 0
Serves kinds.Deduplicate s = Unit {0}
Serves kinds.PartialUpdate s = CanUpdate s
Serves kinds.Aggregation s = CanAggregate s
Serves kinds.FirstRow s = differ (names_of s.columns) ≡ true

-- the engine that the schema names serves it
abbrev pub HasEngine : TableSchema → Type 0
HasEngine s = Serves s.options.engine s
