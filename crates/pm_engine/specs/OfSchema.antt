-- What the engine of a schema means.
use Rattle.std.specs.Prelude.{List, [], ◌∷◌, Bool, false, None}
use Rattle.std.specs.List.{last_or}
use Rattle.std.specs.Option.{option_map_or}
use Rattle.pm_options.specs.declared.kinds.EngineKind.{EngineKind}
use Rattle.pm_options.specs.declared.kinds.EngineKind.TheVariants as engines
use Rattle.pm_schema.specs.declared.schema.TableSchema.{TableSchema}
use Rattle.pm_values.specs.Kind.{retracts}
use Rattle.pm_values.specs.declared.kind.Kind.{Kind}
use Rattle.pm_values.specs.declared.kind.Kind.TheVariants.{Insert}
use Rattle.pm_model_history.specs.ColumnValue.{column_value}
use Rattle.pm_model_history.specs.Merge.{HistoryRow}
use Rattle.pm_model_history.specs.Merged.{primary_of, shows}
use Rattle.pm_model_history.specs.Taken.{stores, verdict}
use Rattle.pm_engine.specs.Meaning.{Meaning}

-- the kind of the first of rows, and of the last; `+I` where there is none
abbrev pub first_kind : List HistoryRow → Kind
first_kind [] = Insert
first_kind (r ∷ rows) = r.0

abbrev pub last_kind : List HistoryRow → Kind
last_kind rows = option_map_or (λ (r : HistoryRow). r.0) (last_or None rows) Insert

-- the kind of the stored row of rows: with deduplication the last one's, with first rows the first one's, else `+I`
abbrev pub kind_by : EngineKind → List HistoryRow → Kind
kind_by engines.Deduplicate rows = last_kind rows
kind_by engines.FirstRow rows = first_kind rows
kind_by engine rows = Insert

-- a stored row that is left out where nothing older is left: with deduplication one that retracts
abbrev pub drops_by : EngineKind → HistoryRow → Bool
drops_by engines.Deduplicate r = retracts r.0
drops_by engine r = false

-- what the engine of a schema means
abbrev pub meaning_of : TableSchema → Meaning
meaning_of s = record {
  columns = s.columns;
  primary = primary_of s;
  verdict = verdict s;
  stores = stores s;
  kind = kind_by s.options.engine;
  value = column_value s;
  shows = shows s;
  drops = drops_by s.options.engine;
}
