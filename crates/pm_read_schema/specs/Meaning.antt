-- What a reader of a schema knows of the files, and which refusals come.
use Rattle.std.specs.Prelude.{◌≡◌, ℕ, None}
use Rattle.pm_values.specs.declared.refusal.Refusal.{Refusal}
use Rattle.pm_values.specs.declared.refusal.Refusal.TheVariants as refusals
use Rattle.pm_store.specs.Files.{Files}
use Rattle.pm_model_history.specs.History.{History, IsTableOf, no_table}
use Rattle.pm_schema.specs.declared.schema.TableSchema.{TableSchema}
use Rattle.pm_model_folder.specs.Ledger.{Past}
use Rattle.pm_read_schema.specs.declared.phase.Phase.{Phase}
use Rattle.pm_read_schema.specs.declared.phase.Phase.TheVariants as phases

-- there is a table, and the id is that of its schema
abbrev pub IsSchemaId : ℕ → History → Type 0
IsSchemaId id h = (id ≡ 0) × ((s : TableSchema) × IsTableOf s h)

-- What it knows in each phase of the history, whatever others do: the schema that it reads is the table's; once that is
-- read, there is a table of it; and it names no origin where the snapshots are listed.
abbrev pub KnowsOf : Phase → History → Type 0
KnowsOf phases.Schemas h = Unit {0}
KnowsOf (phases.Schema id) h = IsSchemaId id h
KnowsOf (phases.Snapshots s) h = IsTableOf s h × (s.origin ≡ None)
KnowsOf (phases.Ready s) h = IsTableOf s h
KnowsOf phases.Over h = Unit {0}

abbrev pub Knows : Phase → Files → Past → Type 0
Knows phase f p = KnowsOf phase p.history

-- the refusals that answers show where the files stand for this history: there is no table, or memory ran out
abbrev pub MayRefuse : History → Refusal → Type 0
MayRefuse h refusals.Memory = Unit {0}
MayRefuse h refusals.NoTable = h ≡ no_table
MayRefuse h other = ⊥
