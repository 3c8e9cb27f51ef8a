use Rattle.pm_engine.specs.Meaning.{DropsNoEffect}
use Rattle.pm_engine.specs.OfSchema.{meaning_of}
use Rattle.pm_engines.specs.TableEngine.{schema_of}
use Rattle.pm_engines.specs.declared.table_engine.TableEngine.TheVariants.{Deduplicate, PartialUpdate, Aggregation, FirstRow}
use Rattle.pm_engines.proofs.table_engine.TableEngineMergeEngine.droppable_law.Goals as goal

-- by the engine that it is
pub returns : goal.returns
returns c engine =
    elim engine as (λ e. DropsNoEffect (meaning_of (schema_of e))) [
      | Deduplicate e ↦ c.droppable_law.ensures e
      | PartialUpdate e ↦ c.droppable_law-2.ensures e
      | Aggregation e ↦ c.droppable_law-3.ensures e
      | FirstRow e ↦ c.droppable_law-4.ensures e
    ]
